use Rattle.applied.proofs.Common.{ceiled_quotient_least, positive_quotient_fits}
use Rattle.applied.proofs.paging.pages.Goals as goal

pub div_ceil-requires-clause-quotient_fits : goal.div_ceil-requires-clause-quotient_fits
div_ceil-requires-clause-quotient_fits g c = λ q h.
    positive_quotient_fits g.met.T.Integer.range_law c.requires.in_range.0 c.requires.in_range.1 c.requires.positive h.division.division

pub returns-clause-fewest : goal.returns-clause-fewest
returns-clause-fewest g c = (ceiled_quotient_least c.requires.positive c.div_ceil.ensures.ceiled).1
