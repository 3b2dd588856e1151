use Rattle.applied.proofs.Common.{◌+◌, ◌<◌, ℕ, slice_index, slice_index_or}
use Rattle.applied.proofs.ranking.is_choice.Given as goal

-- each number before the place is below the one after it
abbrev pub invariant-loop-place : goal.invariant-loop-place
invariant-loop-place l = (earlier : ℕ) → earlier < l.place → slice_index l.numbers earlier < slice_index_or l.numbers (earlier + 1) l.n
