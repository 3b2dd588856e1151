use Rattle.theorems.proofs.Common.{rules, to_z-of_z}
use Rattle.theorems.proofs.lists.bytes_are_coprime.Goals as goal

pub returns : goal.returns
returns c = search (rules, to_z-of_z)
