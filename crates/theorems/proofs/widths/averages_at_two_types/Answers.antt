use Rattle.num_integer.proofs.Laws as law
use Rattle.theorems.proofs.widths.averages_at_two_types.Goals as goal

pub returns-clause-floor : goal.returns-clause-floor
returns-clause-floor g c = law.average_floor_is_only _ _ _ c.average_floor-2.ensures.floor _ (rw (c.requires.same_first, c.requires.same_second) at c.average_floor.ensures.floor)

pub returns-clause-ceil : goal.returns-clause-ceil
returns-clause-ceil g c = law.average_ceil_is_only _ _ _ c.average_ceil-2.ensures.ceil _ (rw (c.requires.same_first, c.requires.same_second) at c.average_ceil.ensures.ceil)
