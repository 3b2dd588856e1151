use Rattle.num_integer.proofs.RowSteps.{cancelled, cancelled_one, cancelled_whole, rest_above, through_remainder}
use Rattle.num_integer.proofs.Common.{fits_below, from_test}
use Rattle.integer_core.proofs.DivisorSizes.{divisor_at_most}
use Rattle.num_integer.proofs.coefficients.factors.Goals as goal

pub gcd-g-requires-clause-gcd_fits : goal.gcd-g-requires-clause-gcd_fits
gcd-g-requires-clause-gcd_fits g c = λ _ z h. fits_below g.met.T.Integer.range_law c.requires.in_range.2 h.from_zero (divisor_at_most c.requires.b_positive h.divides_right)

pub positive_quotient-requires-then-is_below-3-clause-positive : goal.positive_quotient-requires-then-is_below-3-clause-positive
positive_quotient-requires-then-is_below-3-clause-positive g c =
    rest_above c.requires.b_positive (through_remainder c.requires.b_positive c.remainder.ensures.value c.gcd-g.ensures.greatest) c.positive_quotient-then-is_below-2.ensures.value

pub returns-then-not-is_below-clause-product : goal.returns-then-not-is_below-clause-product
returns-then-not-is_below-clause-product g c =
    let greatest = through_remainder c.requires.b_positive c.remainder.ensures.value c.gcd-g.ensures.greatest in
    rw c.positive_quotient.ensures.value (cancelled_whole c.requires.b_positive greatest _ (from_test c.is_below.ensures c.if-not-is_below.true))

pub returns-then-is_below-clause-product : goal.returns-then-is_below-clause-product
returns-then-is_below-clause-product g c =
    let greatest = through_remainder c.requires.b_positive c.remainder.ensures.value c.gcd-g.ensures.greatest in
    rw (c.positive_quotient-then-is_below.ensures.value, c.positive_quotient-then-is_below-3.ensures.value, c.positive_quotient-then-is_below-2.ensures.value)
    (cancelled c.requires.b_positive greatest c.requires.a_from_zero c.requires.whole)

pub returns-else-is_below-clause-product : goal.returns-else-is_below-clause-product
returns-else-is_below-clause-product g c =
    let greatest = through_remainder c.requires.b_positive c.remainder.ensures.value c.gcd-g.ensures.greatest in
    let small = rw c.one.ensures.value at (from_test c.is_below-else-not-is_below.ensures c.if-is_below.false) in
    rw c.positive_quotient-else-is_below.ensures.value (cancelled_one c.requires.b_positive greatest c.requires.a_from_zero c.requires.whole small)
