use Rattle.applied.proofs.Common.{◌≡◌, ◌+◌, ◌-◌, ◌<◌, ◌≤◌, ℕ, count_from}
use Rattle.applied.proofs.shares.remainders.bar_of.Given as goal

abbrev pub invariant-loop-low : goal.invariant-loop-low
invariant-loop-low l = record {
  positive : 0 < l.low;
  ordered : l.low ≤ l.bar;
  within : l.bar ≤ l.total;
  count : count_from l.amount l.total l.bar l.weights + l.left ≡ l.units;
  enough : (b : ℕ) → 0 < b → b + 1 ≡ l.low → l.units < count_from l.amount l.total b l.weights;
}

abbrev pub decreases-loop-low : goal.decreases-loop-low
decreases-loop-low l = l.bar - l.low
