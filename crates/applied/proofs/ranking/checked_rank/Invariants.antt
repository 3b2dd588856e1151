use Rattle.applied.proofs.Common.{◌≡◌, ◌<◌, ◌^◌}
use Rattle.applied.proofs.Choices.{rank_of_first}
use Rattle.applied.proofs.ranking.checked_rank.Given as goal

abbrev pub invariant-loop-i : goal.invariant-loop-i
invariant-loop-i l = record { fits : l.rank < 2 ^ 64; sum : l.rank ≡ rank_of_first l.i l.choice }
