use Rattle.num_integer.proofs.Common.{◌*ℤ◌, test_of_both}
use Rattle.num_integer.proofs.fits_trait.Fits.product_fits.Goals as goal

pub returns : goal.returns
returns g c = test_of_both g.met.Self.Integer.range_law c.ends.ensures.low c.ends.ensures.high (λ a b. a *ℤ b)
    c.parts.ensures.negative c.parts.ensures.magnitude c.parts-2.ensures.negative c.parts-2.ensures.magnitude c.product_is_within.ensures
