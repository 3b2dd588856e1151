use Rattle.num_integer.proofs.Common.{iff_false, gap_fits, next_above, next_exact, ceiled, multiple_domain}
use Rattle.num_integer.proofs.fits_trait.Fits.next_multiple_fits.Goals as goal

pub difference-requires-clause-difference_fits : goal.difference-requires-clause-difference_fits
difference-requires-clause-difference_fits g c = gap_fits g.met.Self.Integer.range_law c.requires.other_in_range c.mod_floor-remainder.ensures.floored.division

pub returns-then-is_zero-2 : goal.returns-then-is_zero-2
returns-then-is_zero-2 g c =
    multiple_domain ceiled (iff_false c.is_zero.ensures c.if-is_zero.false)
    (next_exact c.mod_floor-remainder.ensures.floored.division (c.is_zero-2.ensures.0 c.if-is_zero-2.true)) (λ _. c.requires.self_in_range, λ _. c.if-is_zero-2.true)

pub returns-else-is_zero-2 : goal.returns-else-is_zero-2
returns-else-is_zero-2 g c =
    multiple_domain ceiled (iff_false c.is_zero.ensures c.if-is_zero.false) (next_above c.mod_floor-remainder.ensures.floored.division (iff_false c.is_zero-2.ensures c.if-is_zero-2.false))
    (rw c.difference.ensures.value at c.sum_fits.ensures)
