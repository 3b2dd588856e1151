use Rattle.callers.proofs.Common.{floored_remainder_range, to_z-of_z}
use Rattle.callers.proofs.quotients.remainder_below.Goals as goal

pub returns : goal.returns
returns c =
    let n = c.ranges.n in
    let d = c.ranges.d in
    let fits = c.mod_floor.ensures.in_range in
    simp to_z-of_z (floored_remainder_range c.requires (simp to_z-of_z at c.mod_floor.ensures.floored))
