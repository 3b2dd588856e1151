use Rattle.cellarcove_c.proofs.ArraySums.{one_more_fits}
use Rattle.cellarcove_c.proofs.array_sums.each_sum_fits.Goals as goal

pub loop-i-preserved : goal.loop-i-preserved
loop-i-preserved g c = record {
  fit = one_more_fits g.T.Number.value c.args.a.now c.args.b.now c.loop-i-test.true c.requires.same c.index-a-i.is c.index-b-i.is g.T.Number.fits c.loop-i.fit c.sum_fits-fit.result c.loop-i.invariant.fit c.sum_fits-fit.ensures;
}
