use Rattle.num_integer.proofs.Common.{iff_false}
use Rattle.num_integer.proofs.NearestQuotients.{nearest, test_of_nearest}
use Rattle.num_integer.proofs.checked.nearest.div_round.Goals as goal

pub returns-then-quotient_fits-clause-answer : goal.returns-then-quotient_fits-clause-answer
returns-then-quotient_fits-clause-answer g c =
    ((test_of_nearest nearest g.met.T.Integer.range_law c.requires.in_range.0 c.requires.in_range.1 c.quotient_fits.ensures.domain.1).0 c.if-quotient_fits.true, (c.div_round.ensures.in_range, c.div_round.ensures.nearest))

pub returns-else-quotient_fits-clause-answer : goal.returns-else-quotient_fits-clause-answer
returns-else-quotient_fits-clause-answer g c = iff_false (test_of_nearest nearest g.met.T.Integer.range_law c.requires.in_range.0 c.requires.in_range.1 c.quotient_fits.ensures.domain.1) c.if-quotient_fits.false
