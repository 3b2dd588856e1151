-- The quotient by a negative divisor is negated.
use Rattle.applied.proofs.Common.{from_test}
use Rattle.applied.proofs.ReducedPairs.{operator_fits, part_by_negative, part_by_negative_fits, part_by_positive}
use Rattle.applied.proofs.coprime.divided_by_magnitude.Goals as goal

pub quotient-signed_quotient-requires-clause-quotient_fits : goal.quotient-signed_quotient-requires-clause-quotient_fits
quotient-signed_quotient-requires-clause-quotient_fits g c =
    operator_fits c.requires.nonzero c.requires.divides g.met.T.Integer.range_law c.requires.in_range.0 c.requires.in_range.1 c.requires.not_minus_one

pub negated-requires-clause-negation_fits : goal.negated-requires-clause-negation_fits
negated-requires-clause-negation_fits g c = rw c.quotient-signed_quotient.ensures.value
    (part_by_negative_fits c.requires.nonzero c.requires.divides g.met.T.Integer.range_law c.requires.in_range.0 (c.is_negative.ensures.0 c.if-is_negative.true))

pub returns-then-is_negative-clause-product : goal.returns-then-is_negative-clause-product
returns-then-is_negative-clause-product g c =
    rw (c.negated.ensures.value, c.quotient-signed_quotient.ensures.value) (part_by_negative c.requires.nonzero c.requires.divides (c.is_negative.ensures.0 c.if-is_negative.true))

pub returns-else-is_negative-clause-product : goal.returns-else-is_negative-clause-product
returns-else-is_negative-clause-product g c =
    rw c.quotient-signed_quotient.ensures.value (part_by_positive c.requires.nonzero c.requires.divides (from_test c.is_negative.ensures c.if-is_negative.false))
