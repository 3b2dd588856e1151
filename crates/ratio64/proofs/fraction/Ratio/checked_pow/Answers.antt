use Rattle.ratio64.proofs.Common.{◌≡◌, Err, rules, unsigned_abs, w32, ints, to_z-of_z, sizes}
use Rattle.ratio64.proofs.ReducedAnswers.{powers_of_exact, powers_refused}
use Rattle.ratio64.proofs.fraction.Ratio.checked_pow.Goals as goal

pub returns-in_err-checked_recip-clause-below_zero : goal.returns-in_err-checked_recip-clause-below_zero
returns-in_err-checked_recip-clause-below_zero c = λ below.
    let is : c.from_residual.result ≡ Err c.in_err-checked_recip.field-0.0 = search rules in
    rw is (powers_refused _ (unsigned_abs c.args.exponent) (omega sizes) c.in_err-checked_recip.ensures.reciprocal)

pub returns-in_ok-checked_recip-clause-from_zero : goal.returns-in_ok-checked_recip-clause-from_zero
returns-in_ok-checked_recip-clause-from_zero c = λ above. absurd (omega ints)

pub returns-in_ok-checked_recip-clause-below_zero : goal.returns-in_ok-checked_recip-clause-below_zero
returns-in_ok-checked_recip-clause-below_zero c = λ below.
    let degree : c.unsigned_abs.result ≡ unsigned_abs c.args.exponent =
    rw (to_z-of_z w32 c.args.exponent c.ranges.exponent) at c.unsigned_abs.ensures.value in
    powers_of_exact (unsigned_abs c.args.exponent) c.in_ok-checked_recip.ensures.reciprocal.exact (rw degree at c.power.ensures)
