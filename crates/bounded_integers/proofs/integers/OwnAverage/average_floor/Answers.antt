use Rattle.std.proofs.Common.{arith}
use Rattle.std.proofs.lemmas.Int.{ints}
use Rattle.bounded_integers.proofs.integers.OwnAverage.average_floor.Goals as goal

pub answer-requires : goal.answer-requires
answer-requires g c = omega (arith, ints, c.number.ensures.in_range, c.number-2.ensures.in_range, c.average_floor.ensures.floor.double_le, c.average_floor.ensures.floor.next_double_gt)
