use Rattle.applied.proofs.SignedSums.{total_of_all, wide_out_of_range}
use Rattle.applied.proofs.lists.checked.dot_product.Goals as goal

pub returns-in_err-parts : goal.returns-in_err-parts
returns-in_err-parts g c = rw c.from_residual.ensures (wide_out_of_range g.met.T.Integer.range_law (rw (total_of_all c.loop-a.invariant c.loop-a-test.false) at c.in_err-parts.ensures))

pub returns : goal.returns
returns g c = rw (c.in_ok-parts.ensures, total_of_all c.loop-a.invariant c.loop-a-test.false) at c.number_of.ensures
