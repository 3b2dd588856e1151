use Rattle.applied.proofs.SignedSums.{IsTotalOf}
use Rattle.applied.proofs.lists.checked.sum_of.Given as goal

abbrev pub invariant-loop-number : goal.invariant-loop-number
invariant-loop-number g l = IsTotalOf g.T.Number.value l.numbers l.number-index l.total.low l.total.over l.total.under
