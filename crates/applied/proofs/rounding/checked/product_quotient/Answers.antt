use Rattle.applied.proofs.Common.{iff_false, other_quotient_fits}
use Rattle.applied.proofs.NearestAnswers.{nearest_answer, nearest_by, part_answered}
use Rattle.applied.proofs.rounding.checked.product_quotient.Goals as goal

pub nearest-requires-clause-quotient_fits : goal.nearest-requires-clause-quotient_fits
nearest-requires-clause-quotient_fits g c =
    let product = g.met.T.CheckedMul.checked_mul_law _ _ _ c.in-Some.ensures in
    λ q h. other_quotient_fits g.met.T.Integer.range_law (rw product.1 product.0) c.requires.in_range.2 (iff_false c.is_minus_one.ensures c.if-not-is_minus_one.true) h.division.division

pub returns-in-Some-clause-answer : goal.returns-in-Some-clause-answer
returns-in-Some-clause-answer g c =
    nearest_answer (nearest_by c.args.half) (g.met.T.CheckedMul.checked_mul_law _ _ _ c.in-Some.ensures).1 (iff_false c.is_zero.ensures c.if-is_zero.false)
    c.nearest.ensures.in_range c.nearest.ensures.nearest

pub returns-in_default-clause-within : goal.returns-in_default-clause-within
returns-in_default-clause-within g c =
    let wide = c.wide_product_quotient in
    part_answered (nearest_by c.args.half) g.T.Number.fits g.T.Number.value wide.result g.met.T.Integer.range_law c.requires.in_range.0 wide.ensures
