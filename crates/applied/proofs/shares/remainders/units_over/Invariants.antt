use Rattle.applied.proofs.Common.{◌≡◌, ◌+◌, sum_by, take, rounded_down}
use Rattle.applied.proofs.shares.remainders.units_over.Given as goal

abbrev pub invariant-loop-weight : goal.invariant-loop-weight
invariant-loop-weight l = l.over + sum_by (rounded_down l.amount l.total) (take l.weight-index l.weights) ≡ l.amount
