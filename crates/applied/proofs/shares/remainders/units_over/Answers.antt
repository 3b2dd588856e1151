use Rattle.applied.proofs.Common.{arith, take_all, sum_by-take-le, sum_by_more, rounded_down}
use Rattle.applied.proofs.LargestRemainders.{down_within, units_within}
use Rattle.applied.proofs.shares.remainders.units_over.Goals as goal

pub overflow_sub-over : goal.overflow_sub-over
overflow_sub-over c = grind (arith, sum_by-take-le, down_within, sum_by_more (rounded_down c.args.amount c.args.total) _ _ 0 c.loop-weight-test.true)

pub loop-weight-preserved : goal.loop-weight-preserved
loop-weight-preserved c =
    let more = sum_by_more (rounded_down c.args.amount c.args.total) c.args.weights.now c.loop-weight.weight-index 0 c.loop-weight-test.true in
    omega (arith, more, overflow_sub-over c, c.exact_share-over.ensures.share, c.loop-weight.invariant)

pub returns-clause-over : goal.returns-clause-over
returns-clause-over c = rw (take_all c.loop-weight.weight-index c.args.weights.now c.loop-weight-test.false) at c.loop-weight.invariant

pub returns-clause-enough : goal.returns-clause-enough
returns-clause-enough c = units_within c.args.weights.now c.requires.some c.requires.total (returns-clause-over c)
