use Rattle.num_integer.proofs.Common.{signed_is, signed-not, test_inside}
use Rattle.num_integer.proofs.fits_trait.Fits.difference_fits.Goals as goal

pub returns : goal.returns
returns g c =
    let a = c.parts.ensures in
    let b = c.parts-negative.ensures in
    test_inside g.met.Self.Integer.range_law c.ends.ensures.low c.ends.ensures.high
    (rw (signed_is a.negative a.magnitude, signed-not _ _ (signed_is b.negative b.magnitude)) at c.sum_is_within.ensures)
