use Rattle.callers.proofs.Common.{IsSumOfDivisorsTo, ◌*◌, ◌-◌, ◌≤◌}
use Rattle.callers.proofs.divisors.divisor_sum.Given as goal

abbrev pub invariant-loop-d : goal.invariant-loop-d
invariant-loop-d l = record {
  so_far : IsSumOfDivisorsTo l.n l.d l.total;
  within : l.d ≤ l.n;
  small : l.total ≤ l.d * l.n;
}

abbrev pub decreases-loop-d : goal.decreases-loop-d
decreases-loop-d l = l.n - l.d
