use Rattle.applied.proofs.Common.{◌≡◌, ◌<◌, ◌≤◌, ℕ, slice_index}
use Rattle.applied.proofs.ranking.number_from_zero.Given as goal

abbrev pub invariant-loop-i : goal.invariant-loop-i
invariant-loop-i l = record {
  before : (j : ℕ) → j < l.i → slice_index l.numbers j ≡ j;
  after : (j : ℕ) → l.i ≤ j → slice_index l.numbers j ≡ slice_index l.fn.numbers j;
}
