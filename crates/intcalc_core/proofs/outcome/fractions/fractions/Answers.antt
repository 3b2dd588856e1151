use Rattle.intcalc_core.proofs.Common.{◌≢◌, pos, w64, rules, to_z-of_z, err_from_is_err_and}
use Rattle.intcalc_core.proofs.FractionLemmas.{second_outside}
use Rattle.intcalc_core.proofs.outcome.fractions.fractions.Goals as goal

pub returns-in_err-fraction-2 : goal.returns-in_err-fraction-2
returns-in_err-fraction-2 c =
    let first = rw (to_z-of_z w64 _ c.ranges.a, to_z-of_z w64 _ c.ranges.b) at c.in_ok-fraction.ensures in
    let second = rw (to_z-of_z w64 _ c.ranges.c, to_z-of_z w64 _ c.ranges.d) at c.in_err-fraction-2.ensures in
    let nonzero : c.args.d ≢ pos 0 = search rules in
    let refused = err_from_is_err_and c.from_residual-in_err-fraction-2.result c.from_residual-in_err-fraction-2.ensures.1 in
    rw (refused.1, refused.2, second.0) (second_outside first nonzero second.1)
