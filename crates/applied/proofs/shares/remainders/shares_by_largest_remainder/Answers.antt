use Rattle.applied.proofs.Common.{arith}
use Rattle.applied.proofs.LargestRemainders.{all_raised, one_more_raised, raised_are_near, shares_by_remainder_are_only}
use Rattle.applied.proofs.shares.remainders.shares_by_largest_remainder.Goals as goal

pub loop-i-preserved : goal.loop-i-preserved
loop-i-preserved c =
    one_more_raised _ _ c.loop-i-test.true c.loop-i.invariant c.bar_of-bar.ensures.bar (λ some. (c.bar_of-bar.ensures.left some).0)
    c.rounded_share-share.ensures.rounds

pub returns-clause-shares : goal.returns-clause-shares
returns-clause-shares c =
    all_raised c.in_ok-total.ensures.total.1 (omega arith) c.bar_of-bar.ensures.units (λ some. (c.bar_of-bar.ensures.left some).1) c.loop-i.invariant

pub returns-clause-only : goal.returns-clause-only
returns-clause-only c = shares_by_remainder_are_only _ _ _ (returns-clause-shares c)

pub returns-clause-near : goal.returns-clause-near
returns-clause-near c = raised_are_near c.in_ok-total.ensures.total.1 (omega (arith, c.in_ok-total.ensures.total.1, c.in_ok-total.ensures.total.0.1)) (omega arith) c.loop-i.invariant
