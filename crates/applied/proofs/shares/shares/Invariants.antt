use Rattle.applied.proofs.WeightedShares.{AreSharedTo}
use Rattle.applied.proofs.shares.shares.Given as goal

abbrev pub invariant-loop-i : goal.invariant-loop-i
invariant-loop-i l = AreSharedTo l.amount l.weights l.total l.i l.ahead l.shares
