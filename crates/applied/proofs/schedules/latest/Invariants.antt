use Rattle.applied.proofs.Common.{◌<◌, ◌≤ℤ◌, ℕ, ℤ, slice_index_or, HaveBegun, Schedule}
use Rattle.applied.proofs.schedules.latest.Given as goal

-- the least time from now on that is not before the first times so far
abbrev pub invariant-loop-schedule : goal.invariant-loop-schedule
invariant-loop-schedule g l = record {
  in_range : g.T.Number.fits (g.T.Number.value l.latest);
  from_there : g.T.Number.value l.fn.now ≤ℤ g.T.Number.value l.latest;
  begun : (i : ℕ) (d : Schedule g.row.T.Denot) → i < l.schedule-index
      → g.T.Number.value (slice_index_or l.schedules i d).first ≤ℤ g.T.Number.value l.latest;
  least : (u : ℤ) → g.T.Number.value l.fn.now ≤ℤ u → HaveBegun g.T.Number.value l.schedules u → g.T.Number.value l.latest ≤ℤ u;
}
