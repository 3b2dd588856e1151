use Rattle.callers.proofs.Common.{arith}
use Rattle.callers.proofs.dates.print_and_parse.Goals as goal

pub returns : goal.returns
returns c = grind (arith, c.parse.ensures.value)
