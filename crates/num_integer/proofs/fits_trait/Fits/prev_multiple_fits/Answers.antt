use Rattle.num_integer.proofs.Common.{iff_false, previous, floored, multiple_domain}
use Rattle.num_integer.proofs.fits_trait.Fits.prev_multiple_fits.Goals as goal

pub returns-then-not-is_zero : goal.returns-then-not-is_zero
returns-then-not-is_zero g c =
    multiple_domain floored (iff_false c.is_zero.ensures c.if-not-is_zero.true) (previous c.mod_floor.ensures.floored.division) c.difference_fits.ensures
