use Rattle.applied.proofs.Common.{length}
use Rattle.applied.proofs.Choices.{IsWrittenFrom}
use Rattle.applied.proofs.ranking.choice_of_rank.Given as goal

abbrev pub invariant-loop-i : goal.invariant-loop-i
invariant-loop-i l = IsWrittenFrom l.n (length l.fn.choice) l.fn.rank l.i l.bound l.rest l.choice
