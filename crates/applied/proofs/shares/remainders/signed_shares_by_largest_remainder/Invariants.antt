use Rattle.applied.proofs.Common.{remainder_of, rounded_down}
use Rattle.applied.proofs.LargestRemainders.{AreRaisedTo}
use Rattle.applied.proofs.WeightedShares.{AreSignedTo}
use Rattle.applied.proofs.shares.remainders.signed_shares_by_largest_remainder.Given as goal

abbrev pub invariant-loop-i : goal.invariant-loop-i
invariant-loop-i l =
    AreSignedTo (AreRaisedTo (rounded_down l.magnitude l.total) (remainder_of l.magnitude l.total) l.bar l.extra l.weights l.i l.left) l.amount l.i l.shares
