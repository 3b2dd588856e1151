use Rattle.integer_core.proofs.ForAnswers.{iff_false, gap_fits, next_above, next_exact}
use Rattle.integer_core.proofs.Integer.next_multiple_of.Goals as goal

pub difference-requires-clause-difference_fits : goal.difference-requires-clause-difference_fits
difference-requires-clause-difference_fits g c = gap_fits g.met.Self.Integer.range_law c.requires.other_in_range c.mod_floor-m.ensures.floored.division

pub sum-requires-clause-sum_fits : goal.sum-requires-clause-sum_fits
sum-requires-clause-sum_fits g c =
    let inexact = iff_false c.is_zero.ensures c.if-is_zero.false in
    rw c.difference.ensures.value (c.requires.multiple_fits _ (next_above c.mod_floor-m.ensures.floored.division inexact))

pub returns-then-is_zero-clause-multiple : goal.returns-then-is_zero-clause-multiple
returns-then-is_zero-clause-multiple g c = next_exact c.mod_floor-m.ensures.floored.division (c.is_zero.ensures.0 c.if-is_zero.true)

pub returns-else-is_zero-clause-multiple : goal.returns-else-is_zero-clause-multiple
returns-else-is_zero-clause-multiple g c =
    let inexact = iff_false c.is_zero.ensures c.if-is_zero.false in
    rw (c.sum.ensures.value, c.difference.ensures.value) (next_above c.mod_floor-m.ensures.floored.division inexact)
