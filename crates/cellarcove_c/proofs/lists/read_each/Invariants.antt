use Rattle.cellarcove_c.proofs.Common.{FitsSigned, w64, All, take}
use Rattle.cellarcove_c.proofs.lists.read_each.Given as goal

abbrev pub invariant-loop-number : goal.invariant-loop-number
invariant-loop-number l = All (FitsSigned w64) (take l.number-index l.numbers)
