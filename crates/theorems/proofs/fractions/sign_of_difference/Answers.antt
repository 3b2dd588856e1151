use Rattle.theorems.proofs.Common.{arith}
use Rattle.theorems.proofs.fractions.sign_of_difference.Goals as goal

pub returns-in-Less : goal.returns-in-Less
returns-in-Less c = grind arith

pub returns-in-Equal : goal.returns-in-Equal
returns-in-Equal c = grind arith

pub returns-in-Greater : goal.returns-in-Greater
returns-in-Greater c = grind arith
