use Rattle.callers.proofs.Common.{to_z-of_z, w64}
use Rattle.callers.proofs.dates.weeks_later_by_match.Goals as goal

pub returns-in-None : goal.returns-in-None
returns-in-None c = rw (to_z-of_z w64 _ c.ranges.weeks) at c.in-None.ensures
