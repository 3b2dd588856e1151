use Rattle.applied.proofs.SignedSums.{total_more, total_of_all, wide_out_of_range}
use Rattle.applied.proofs.lists.checked.sum_of.Goals as goal

pub loop-number-preserved : goal.loop-number-preserved
loop-number-preserved g c = total_more c.loop-number.invariant c.loop-number-test.true c.number-item.is (rw c.from.ensures c.parts_of-negative.ensures) c.plus-total.ensures.value c.plus-total.ensures.over c.plus-total.ensures.under

pub returns-in_err-parts : goal.returns-in_err-parts
returns-in_err-parts g c = rw c.from_residual.ensures (wide_out_of_range g.met.T.Integer.range_law (rw (total_of_all c.loop-number.invariant c.loop-number-test.false) at c.in_err-parts.ensures))

pub returns : goal.returns
returns g c = rw (c.in_ok-parts.ensures, total_of_all c.loop-number.invariant c.loop-number-test.false) at c.number_of.ensures
