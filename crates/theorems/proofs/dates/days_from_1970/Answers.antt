use Rattle.theorems.proofs.Common.{arith, ints}
use Rattle.theorems.proofs.dates.days_from_1970.Goals as goal

pub returns : goal.returns
returns c = grind (arith, ints)
