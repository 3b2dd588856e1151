use Rattle.applied.proofs.Common.{◌<◌, ◌≤◌, ◌-◌, coefficient}
use Rattle.applied.proofs.ranking.greatest_within.Given as goal

abbrev pub invariant-loop-low : goal.invariant-loop-low
invariant-loop-low l = record {
  apart : l.low < l.high;
  high : l.high ≤ l.fn.bound;
  within : coefficient l.low l.place ≤ l.limit;
  above : l.limit < coefficient l.high l.place;
}

abbrev pub decreases-loop-low : goal.decreases-loop-low
decreases-loop-low l = l.high - l.low
