use Rattle.integer_core.proofs.ForAnswers.{arith, linear, floored_below, floored_same, truncated_fits, floored_remainder_fits}
use Rattle.integer_core.proofs.division.div_mod_floor.Goals as goal

pub div_rem-q-requires-clause-quotient_fits : goal.div_rem-q-requires-clause-quotient_fits
div_rem-q-requires-clause-quotient_fits g c = truncated_fits g.met.T.Native.native_law.range c.requires.in_range.0 c.requires.in_range.1 c.requires.quotient_fits

pub predecessor-requires-clause-difference_fits : goal.predecessor-requires-clause-difference_fits
predecessor-requires-clause-difference_fits g c =
    c.requires.quotient_fits _ (record { remainder = _; division = floored_below c.div_rem-q.ensures.truncated (grind (arith, linear)) })

pub sum-requires-clause-sum_fits : goal.sum-requires-clause-sum_fits
sum-requires-clause-sum_fits g c =
    floored_remainder_fits g.met.T.Native.native_law.range c.requires.in_range.1 (floored_below c.div_rem-q.ensures.truncated (grind (arith, linear)))

pub returns-then-is_rounded_up-clause-floored : goal.returns-then-is_rounded_up-clause-floored
returns-then-is_rounded_up-clause-floored g c =
    rw (c.predecessor.ensures.value, c.sum.ensures.value) (floored_below c.div_rem-q.ensures.truncated (grind (arith, linear)))

pub returns-else-is_rounded_up-clause-floored : goal.returns-else-is_rounded_up-clause-floored
returns-else-is_rounded_up-clause-floored g c = floored_same c.div_rem-q.ensures.truncated (grind (arith, linear))
