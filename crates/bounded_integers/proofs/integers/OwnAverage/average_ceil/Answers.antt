use Rattle.std.proofs.Common.{arith}
use Rattle.std.proofs.lemmas.Int.{ints}
use Rattle.bounded_integers.proofs.integers.OwnAverage.average_ceil.Goals as goal

pub answer-requires : goal.answer-requires
answer-requires g c = omega (arith, ints, c.number.ensures.in_range, c.number-2.ensures.in_range, c.average_ceil.ensures.ceil.previous_double_lt, c.average_ceil.ensures.ceil.double_ge)
