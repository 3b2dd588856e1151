use Rattle.applied.proofs.Common.{◌-◌, ◌≤◌, ◌≤ℤ◌, ◌<ℤ◌, length, AllWithin}
use Rattle.applied.proofs.halving.lower_bound.Given as goal

-- the items before low are below the number, those from high on are not
abbrev pub invariant-loop-low : goal.invariant-loop-low
invariant-loop-low g l = record {
  ordered : l.low ≤ l.high;
  within : l.high ≤ length l.items;
  below : AllWithin (λ x. g.T.Number.value x <ℤ g.T.Number.value l.least) l.items 0 l.low;
  from : AllWithin (λ x. g.T.Number.value l.least ≤ℤ g.T.Number.value x) l.items l.high (length l.items);
}

abbrev pub decreases-loop-low : goal.decreases-loop-low
decreases-loop-low g l = l.high - l.low
