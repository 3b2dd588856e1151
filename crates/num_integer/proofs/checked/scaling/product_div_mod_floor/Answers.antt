use Rattle.num_integer.proofs.Common.{iff_false, other_quotient_fits}
use Rattle.num_integer.proofs.CheckedAnswers.{some_in_domain}
use Rattle.num_integer.proofs.FlooredProducts.{part_fits}
use Rattle.num_integer.proofs.checked.scaling.product_div_mod_floor.Goals as goal

pub div_mod_floor-requires-clause-quotient_fits : goal.div_mod_floor-requires-clause-quotient_fits
div_mod_floor-requires-clause-quotient_fits g c =
    let product = g.met.T.CheckedMul.checked_mul_law _ _ _ c.in-Some.ensures in
    λ q h. other_quotient_fits g.met.T.Integer.range_law (rw product.1 product.0) c.requires.d_in_range (iff_false c.is_minus_one.ensures c.if-not-is_minus_one.true) h.division.division

pub returns-in-Some-clause-answer : goal.returns-in-Some-clause-answer
returns-in-Some-clause-answer g c =
    let product = g.met.T.CheckedMul.checked_mul_law _ _ _ c.in-Some.ensures in
    let own = rw product.1 at c.div_mod_floor.ensures.floored in
    ((iff_false c.is_zero.ensures c.if-is_zero.false, λ q h. other_quotient_fits g.met.T.Integer.range_law product.0 c.requires.d_in_range (iff_false c.is_minus_one.ensures c.if-not-is_minus_one.true) h.division.division), (c.div_mod_floor.ensures.in_range.0, c.div_mod_floor.ensures.in_range.1, own))

pub returns-in_default-clause-within : goal.returns-in_default-clause-within
returns-in_default-clause-within g c = λ a_up b_up within up.
    some_in_domain _ c.wide_product_div_mod_floor.result c.wide_product_div_mod_floor.ensures
    (λ q h. part_fits g.met.T.Integer.range_law c.requires.a_in_range a_up b_up within up h.division.division)
