use Rattle.applied.proofs.Common.{remainder_of, rounded_down}
use Rattle.applied.proofs.LargestRemainders.{AreRaisedTo}
use Rattle.applied.proofs.shares.remainders.shares_by_largest_remainder.Given as goal

abbrev pub invariant-loop-i : goal.invariant-loop-i
invariant-loop-i l = AreRaisedTo (rounded_down l.amount l.total) (remainder_of l.amount l.total) l.bar l.extra l.weights l.i l.left l.shares
