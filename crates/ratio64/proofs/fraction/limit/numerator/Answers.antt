use Rattle.ratio64.proofs.Common.{arith}
use Rattle.ratio64.proofs.WideSums.{numbers_read}
use Rattle.ratio64.proofs.fraction.limit.numerator.Goals as goal

pub overflow_add-num : goal.overflow_add-num
overflow_add-num c = grind (arith, numbers_read)

pub overflow_cast-result : goal.overflow_cast-result
overflow_cast-result c = grind (arith, numbers_read)

pub returns : goal.returns
returns c = grind (arith, numbers_read)
