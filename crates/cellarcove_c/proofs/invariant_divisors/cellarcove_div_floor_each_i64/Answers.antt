use Rattle.std.proofs.Common.{ℕ, ap, arith, inl, inr, of_z, pos, refl, sym, w64}
use Rattle.std.proofs.lemmas.Int.{ints, to_z-of_z}
use Rattle.std.specs.Prelude.{◌≢◌, negsuc, suc, zero}
use Rattle.cellarcove_c.proofs.FlooredQuotients.{fit_by_other, minus_one_bits}
use Rattle.cellarcove_c.specs.Answers.{Answers}
use Rattle.cellarcove_c.specs.Statuses.{IsReason, StatusIs, not_fitting}
use Rattle.cellarcove_c.proofs.invariant_divisors.cellarcove_div_floor_each_i64.Goals as goal

-- what is known beside a domain, added to it
added : {A P Q R U : Type 0} {Is : A → Type 0} {zeros value : A} (status : ℕ) → R → Q → ¬ U → Answers P Is (StatusIs not_fitting) zeros status value
    → Answers (R × Q × P) Is (IsReason U) zeros status value
added zero r q _ own = record { answer = ((r, q, own.answer.0), own.answer.1); refusal = λ h. absurd (h refl) }
added (suc _) r q none own =
    record {
      answer = λ h. own.answer h.2;
      refusal = λ h. ((own.refusal h).0, ((λ e. absurd (omega (arith, e, (own.refusal h).1)), λ u. absurd (none u)), (λ _. none, λ _. (own.refusal h).1)));
    }

pub returns-then-divisor-eqminus1 : goal.returns-then-divisor-eqminus1
returns-then-divisor-eqminus1 c =
    let nonzero : negsuc 0 ≢ pos 0 = omega (arith, ints) in
    let same = sym c.if-numbers-quotients.false in
    rw (minus_one_bits c.args.divisor c.ranges.divisor c.if-divisor-eqminus1.true)
    (added c.write_by_minus_one.result nonzero same (λ u. elim u [ inl is ↦ nonzero is | inr differ ↦ differ same ]) c.write_by_minus_one.ensures)

pub write_by_other-requires-clause-nonzero : goal.write_by_other-requires-clause-nonzero
write_by_other-requires-clause-nonzero c = rw (to_z-of_z w64 c.args.divisor c.ranges.divisor) (λ is. c.if-divisor-eq0.false (ap (of_z w64) is))

pub write_by_other-requires-clause-other : goal.write_by_other-requires-clause-other
write_by_other-requires-clause-other c = rw (to_z-of_z w64 c.args.divisor c.ranges.divisor) (λ is. c.if-divisor-eqminus1.false (ap (of_z w64) is))

pub returns : goal.returns
returns c =
    let fit = fit_by_other c.args.numbers.now c.read_each.ensures c.ranges.divisor (λ is. c.if-divisor-eqminus1.false (ap (of_z w64) is)) in
    let floored = rw (to_z-of_z w64 c.args.divisor c.ranges.divisor) at c.write_by_other.ensures in
    record {
      answer = ((λ is. c.if-divisor-eq0.false (ap (of_z w64) is), sym c.if-numbers-quotients.false, fit), floored);
      refusal = λ h. absurd (h refl);
    }
