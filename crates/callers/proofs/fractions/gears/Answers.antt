use Rattle.callers.proofs.Common.{nearest_parts_of_equal, to_z-of_z, unwrapped_is_exact, w64}
use Rattle.callers.proofs.fractions.gears.Goals as goal

pub returns-clause-nearest : goal.returns-clause-nearest
returns-clause-nearest c =
    nearest_parts_of_equal c.requires.den (unwrapped_is_exact c.ranges.num c.ranges.den c.unwrap.ensures c.new.ensures.fraction)
    (rw (to_z-of_z w64 c.args.max_teeth c.ranges.max_teeth) at c.gears_of.ensures.nearest)
