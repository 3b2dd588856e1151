use Rattle.num_integer.proofs.Common.{arith, iff_false, ints, by_minus_one, by_other, each_kind}
use Rattle.num_integer.proofs.fits_trait.Fits.quotient_fits.Goals as goal

pub returns-then-is_minus_one : goal.returns-then-is_minus_one
returns-then-is_minus_one g c =
    let minus = c.is_minus_one.ensures.0 c.if-is_minus_one.true in
    let domain = each_kind (λ Kind kind. by_minus_one kind g.met.Self.Integer.range_law c.requires.self_in_range c.requires.other_in_range _ _ minus c.parts.ensures.magnitude c.ends.ensures.high) in
    record { domain = domain; positive = λ up. absurd (omega (arith, ints)) }

pub returns-else-is_minus_one-clause-domain : goal.returns-else-is_minus_one-clause-domain
returns-else-is_minus_one-clause-domain g c =
    let other = iff_false c.is_minus_one.ensures c.if-is_minus_one.false in
    each_kind (λ Kind kind. by_other kind g.met.Self.Integer.range_law c.requires.self_in_range c.requires.other_in_range (iff_false c.is_zero.ensures c.if-is_zero.false) other)
