use Rattle.num_integer.proofs.Common.{within_fits}
use Rattle.num_integer.proofs.NearestQuotients.{missing_within}
use Rattle.num_integer.proofs.nearest.rounds_down.Goals as goal

pub difference-missing-requires-clause-difference_fits : goal.difference-missing-requires-clause-difference_fits
difference-missing-requires-clause-difference_fits g c = within_fits g.met.T.Integer.range_law c.requires.in_range.1 (missing_within _ _ c.requires.within)
