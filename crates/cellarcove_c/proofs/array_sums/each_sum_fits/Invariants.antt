use Rattle.cellarcove_c.proofs.Common.{◌↔◌, IsTrue, map}
use Rattle.cellarcove_c.proofs.ArraySums.{SumsFitTo}
use Rattle.cellarcove_c.proofs.array_sums.each_sum_fits.Given as goal

abbrev pub invariant-loop-i : goal.invariant-loop-i
invariant-loop-i g l = record {
  fit : IsTrue l.fit ↔ SumsFitTo g.T.Number.fits l.i (map g.T.Number.value l.a) (map g.T.Number.value l.b);
}
