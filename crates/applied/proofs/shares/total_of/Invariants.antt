use Rattle.applied.proofs.Common.{◌≡◌, ◌*◌, ◌^◌, ◌≤◌, sum, take}
use Rattle.applied.proofs.shares.total_of.Given as goal

abbrev pub invariant-loop-weight : goal.invariant-loop-weight
invariant-loop-weight l = record { so_far : l.total ≡ sum (take l.weight-index l.weights); bound : l.total ≤ l.weight-index * 2 ^ 64 }
