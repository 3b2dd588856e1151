use Rattle.applied.proofs.Common.{unsigned_abs}
use Rattle.applied.proofs.WeightedShares.{AreSharedTo, AreSignedTo}
use Rattle.applied.proofs.shares.signed_shares.Given as goal

abbrev pub invariant-loop-i : goal.invariant-loop-i
invariant-loop-i l = AreSignedTo (AreSharedTo (unsigned_abs l.amount) l.weights l.total l.i l.ahead) l.amount l.i l.shares
