-- The result of `signed_gcd_of` is negated if it is negative.
use Rattle.applied.proofs.Common.{from_test, sizes}
use Rattle.applied.proofs.ListDivisors.{checked_gcd_of, gcd_of_result}
use Rattle.applied.proofs.lists.checked.gcd_of.Goals as goal

pub returns-then-is_negative : goal.returns-then-is_negative
returns-then-is_negative g c =
    checked_gcd_of g.T.Number.value g.met.T.Integer.range_law c.signed_gcd_of-divisor.ensures.in_range (c.is_negative.ensures.0 c.if-is_negative.true)
    c.signed_gcd_of-divisor.ensures.magnitude c.negated.result c.negated.ensures

pub returns-else-is_negative : goal.returns-else-is_negative
returns-else-is_negative g c =
    let up = from_test c.is_negative.ensures c.if-is_negative.false in
    gcd_of_result g.T.Number.fits c.signed_gcd_of-divisor.ensures.magnitude (omega sizes) c.signed_gcd_of-divisor.ensures.in_range
