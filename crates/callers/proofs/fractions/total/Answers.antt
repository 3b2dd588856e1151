use Rattle.std.proofs.Common.{◌<◌, ◌≢◌, arith, length, Err, IfErr, Ok}
use Rattle.std.proofs.lemmas.List.{take_more}
use Rattle.std.proofs.lemmas.List.Sums.{fold_push}
use Rattle.callers.proofs.Common.{AnswersFraction, IsExact, List, Ratio, RatioError, Result, den_of, err_is_outside, get_or, nonzero_product, num_of, pos, positive_is_nonzero, reduced_is_exact, sum_of_exact_results, take, ℕ, ℤ, ◌*ℤ◌, ◌+ℤ◌, ◌+◌, ◌≡◌}
use Rattle.ratio64.specs.Fraction.{IsOutsideI64}
use Rattle.callers.specs.Sums.{sum_of}
use Rattle.callers.proofs.fractions.total.Goals as goal

-- the sum with one fraction more, whose denominator is not 0
more : (xs : List Ratio) (i : ℕ) (t x : Ratio) {r : Result Ratio RatioError} → i < length xs → x ≡ get_or xs i x
    → IsExact (sum_of (take i xs)).0 (sum_of (take i xs)).1 (num_of t) (den_of t)
    → AnswersFraction (num_of t *ℤ den_of x +ℤ num_of x *ℤ den_of t) (den_of t *ℤ den_of x) r
    → ((sum_of (take (i + 1) xs)).1 ≢ pos 0) × AnswersFraction (sum_of (take (i + 1) xs)).0 (sum_of (take (i + 1) xs)).1 r
more xs i t x lt is so_far added =
    rw (take_more xs i x lt, ← is, fold_push {B = ℤ × ℤ} _ _ (take i xs) x)
    (nonzero_product so_far.fraction (positive_is_nonzero x.reduced.positive), sum_of_exact_results so_far (reduced_is_exact x.reduced) added)

-- what holds in any case holds of an error
of_error : {A E Q : Type 0} (r : Result A E) → Q → IfErr r (λ _. Q)
of_error (Ok x) q = tt
of_error (Err e) q = q

pub returns-in_err-total-clause-outside : goal.returns-in_err-total-clause-outside
returns-in_err-total-clause-outside c =
    let xs = c.args.fractions.now in
    let i = c.loop-fraction.fraction-index in
    let lt : i < length xs = omega arith in
    let sum = more xs i c.loop-fraction.total c.fraction-item.result lt c.fraction-item.is c.loop-fraction.invariant c.in_err-total.ensures.sum in
    let outside : (k : ℕ) × IsOutsideI64 (sum_of (take k xs)).0 (sum_of (take k xs)).1 = (i + 1, err_is_outside _ sum.0 sum.1) in
    of_error _ outside

pub loop-fraction-preserved : goal.loop-fraction-preserved
loop-fraction-preserved c =
    let xs = c.args.fractions.now in
    let i = c.loop-fraction.fraction-index in
    let lt : i < length xs = omega arith in
    (more xs i c.loop-fraction.total c.fraction-item.result lt c.fraction-item.is c.loop-fraction.invariant c.in_ok-total.ensures.sum).1.exact
