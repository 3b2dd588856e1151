use Rattle.applied.proofs.Common.{only_pair_by_range, positive_quotient_fits}
use Rattle.applied.proofs.paging.place_of.Goals as goal

pub div_mod_floor-requires-clause-quotient_fits : goal.div_mod_floor-requires-clause-quotient_fits
div_mod_floor-requires-clause-quotient_fits g c = λ q h.
    positive_quotient_fits g.met.T.Integer.range_law c.requires.in_range.0 c.requires.in_range.1 c.requires.positive h.division.division

pub returns-clause-only : goal.returns-clause-only
returns-clause-only g c = λ page place h. only_pair_by_range c.div_mod_floor.ensures.floored h.equation h.from_zero h.below
