use Rattle.applied.proofs.Common.{◌≡◌, ◌≤◌, take, count_from}
use Rattle.applied.proofs.shares.remainders.reaching.Given as goal

abbrev pub invariant-loop-weight : goal.invariant-loop-weight
invariant-loop-weight l = record {
  so_far : l.count ≡ count_from l.amount l.total l.bar (take l.weight-index l.weights);
  bound : l.count ≤ l.weight-index;
}
