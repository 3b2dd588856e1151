use Rattle.ratio64.proofs.Common.{arith}
use Rattle.ratio64.proofs.WideSums.{numbers_read}
use Rattle.ratio64.proofs.reduction.numerator_of_sum.Goals as goal

pub overflow_add-result : goal.overflow_add-result
overflow_add-result c = grind (arith, numbers_read)

pub returns : goal.returns
returns c = grind (arith, numbers_read)
