use Rattle.cellarcove_c.proofs.Common.{map}
use Rattle.cellarcove_c.proofs.ArraySums.{AreSumsTo}
use Rattle.cellarcove_c.proofs.array_sums.add_each.Given as goal

abbrev pub invariant-loop-i : goal.invariant-loop-i
invariant-loop-i g l = AreSumsTo l.i (map g.T.Number.value l.a) (map g.T.Number.value l.b) (map g.T.Number.value l.sums)
