use Rattle.cellarcove_c.proofs.Common.{arith, length-map}
use Rattle.cellarcove_c.proofs.ArraySums.{one_more_added, sum_at}
use Rattle.cellarcove_c.proofs.array_sums.add_each.Goals as goal

pub sum-requires : goal.sum-requires
sum-requires g c =
    let value = g.T.Number.value in
    rw (sum_at value c.args.a.now c.args.b.now c.loop-i-test.true c.requires.same_b c.index-a-i.is c.index-b-i.is) at (c.requires.fit c.loop-i.i (omega (arith, c.loop-i-test.true, length-map c.args.a.now value)))

pub loop-i-preserved : goal.loop-i-preserved
loop-i-preserved g c =
    one_more_added g.T.Number.value c.args.a.now c.args.b.now c.loop-i-test.true c.requires.same_b c.index-a-i.is c.index-b-i.is c.loop-i.sums c.sum.result c.sum.ensures c.loop-i.invariant
