use Rattle.ratio64.proofs.Common.{arith}
use Rattle.ratio64.proofs.WideSums.{numbers_read}
use Rattle.ratio64.proofs.reduction.numerator_of_difference.Goals as goal

pub overflow_sub-result : goal.overflow_sub-result
overflow_sub-result c = grind (arith, numbers_read)

pub returns : goal.returns
returns c = grind (arith, numbers_read)
