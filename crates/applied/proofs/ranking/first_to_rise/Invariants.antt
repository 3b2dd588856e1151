use Rattle.applied.proofs.Common.{◌≡◌, ◌+◌, ◌<◌, ℕ, slice_index, slice_index_or}
use Rattle.applied.proofs.ranking.first_to_rise.Given as goal

-- no number before the place can rise
abbrev pub invariant-loop-place : goal.invariant-loop-place
invariant-loop-place l = (earlier : ℕ) → earlier < l.place → slice_index l.choice earlier + 1 ≡ slice_index_or l.choice (earlier + 1) l.n
