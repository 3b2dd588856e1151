use Rattle.num_integer.proofs.Common.{lcm_at_most, no_lcm}
use Rattle.num_integer.proofs.fits_trait.Fits.lcm_fits.Goals as goal

pub returns-in-Some : goal.returns-in-Some
returns-in-Some g c =
    lcm_at_most g.met.Self.Integer.range_law c.ends-high.ensures.high c.parts-m.ensures.magnitude c.parts-n.ensures.magnitude c.in-Some.ensures.1

pub returns-in-None : goal.returns-in-None
returns-in-None g c =
    (λ t. absurd cc, λ each. absurd (no_lcm g.met.Self.Integer.range_law c.ends-high.ensures.high c.parts-m.ensures.magnitude c.parts-n.ensures.magnitude c.in-None.ensures each))
