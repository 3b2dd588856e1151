use Rattle.applied.proofs.Common.{positive_quotient_fits}
use Rattle.applied.proofs.Instalments.{each_left, first_fits, instalments_are, instalments_are_only}
use Rattle.applied.proofs.shares.equal.instalments.Goals as goal

pub div_rem-other-requires-clause-quotient_fits : goal.div_rem-other-requires-clause-quotient_fits
div_rem-other-requires-clause-quotient_fits g c =
    λ q h. positive_quotient_fits g.met.T.Integer.range_law c.requires.in_range.0 c.requires.in_range.1 c.requires.positive h.division.division

pub sum-requires-clause-sum_fits : goal.sum-requires-clause-sum_fits
sum-requires-clause-sum_fits g c = first_fits c.requires.positive c.div_rem-other.ensures.truncated g.met.T.Integer.range_law c.requires.in_range.0

pub returns-clause-instalments : goal.returns-clause-instalments
returns-clause-instalments g c = instalments_are c.requires.positive c.div_rem-other.ensures.truncated c.sum.ensures.value

pub returns-clause-only : goal.returns-clause-only
returns-clause-only g c = instalments_are_only c.requires.positive (returns-clause-instalments g c)

pub returns-clause-whole : goal.returns-clause-whole
returns-clause-whole g c = (returns-clause-instalments g c).whole

pub returns-clause-items_in_range : goal.returns-clause-items_in_range
returns-clause-items_in_range g c = each_left g.T.Number.fits _ _ _ c.sum.ensures.in_range c.div_rem-other.ensures.in_range.0
