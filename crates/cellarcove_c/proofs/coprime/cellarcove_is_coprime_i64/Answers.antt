use Rattle.cellarcove_c.proofs.Common.{w64, to_z-of_z}
use Rattle.cellarcove_c.proofs.coprime.cellarcove_is_coprime_i64.Goals as goal

pub returns : goal.returns
returns c = rw (to_z-of_z w64 c.args.x c.ranges.x, to_z-of_z w64 c.args.y c.ranges.y) at c.is_coprime.ensures
