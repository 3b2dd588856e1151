use Rattle.callers.proofs.Common.{min, slice_index, sum, take, ℕ, ◌*◌, ◌+◌, ◌<◌, ◌≡◌, ◌≤◌}
use Rattle.callers.proofs.amounts.split_evenly.Given as goal

-- the first shares are larger by one
abbrev pub invariant-loop-i : goal.invariant-loop-i
invariant-loop-i l = record {
  so_far : sum (take l.i l.out) ≡ l.share * l.i + min l.i l.rest;
  near : (k : ℕ) → k < l.i → (l.share ≤ slice_index l.out k) × (slice_index l.out k ≤ l.share + 1);
}
