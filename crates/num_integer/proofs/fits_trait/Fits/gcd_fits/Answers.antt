use Rattle.integer_core.proofs.DivisorSizes.{gcd_with_positive_fits}
use Rattle.num_integer.proofs.Common.{gcd_of_nonzero, gcd_of_zero}
use Rattle.num_integer.proofs.fits_trait.Fits.gcd_fits.Goals as goal

pub returns-then-b-eq0 : goal.returns-then-b-eq0
returns-then-b-eq0 g c =
    let range = g.met.Self.Integer.range_law in
    let domain = gcd_of_zero range c.ends-high.ensures.high c.parts-a.ensures.magnitude c.parts-b.ensures.magnitude c.if-b-eq0.either c.max.ensures in
    record { domain = domain; positive = λ up. domain.1 (λ z. gcd_with_positive_fits range c.requires.other_in_range up) }

pub returns-else-b-eq0 : goal.returns-else-b-eq0
returns-else-b-eq0 g c =
    let range = g.met.Self.Integer.range_law in
    let domain =
    gcd_of_nonzero range c.ends-high.ensures.high c.parts-a.ensures.magnitude c.parts-b.ensures.magnitude c.requires.self_in_range c.requires.other_in_range
    c.if-b-eq0.false.0 c.if-b-eq0.false.1 c.min.ensures in
    record { domain = domain; positive = λ up. domain.1 (λ z. gcd_with_positive_fits range c.requires.other_in_range up) }
