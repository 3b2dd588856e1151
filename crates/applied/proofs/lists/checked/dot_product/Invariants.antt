use Rattle.applied.proofs.Common.{◌*ℤ◌}
use Rattle.applied.proofs.SignedSums.{IsTotalOf}
use Rattle.applied.proofs.lists.checked.dot_product.Given as goal

abbrev pub invariant-loop-a : goal.invariant-loop-a
invariant-loop-a g l = IsTotalOf (λ p. g.T.Number.value p.0 *ℤ g.T.Number.value p.1) l.pairs l.a-index l.total.low l.total.over l.total.under
