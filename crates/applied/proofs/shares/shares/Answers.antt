use Rattle.applied.proofs.Common.{arith}
use Rattle.applied.proofs.WeightedShares.{all_shared, one_more_shared, shares_are_near, shares_are_only, shares_are_whole}
use Rattle.applied.proofs.shares.shares.Goals as goal

pub loop-i-preserved : goal.loop-i-preserved
loop-i-preserved c = one_more_shared c.next_share-share.result.0 c.loop-i-test.true c.next_share-share.ensures.share c.next_share-share.ensures.below c.loop-i.invariant

pub returns-clause-shares : goal.returns-clause-shares
returns-clause-shares c = all_shared c.in_ok-total.ensures.total.1 (omega arith) c.loop-i.invariant

pub returns-clause-only : goal.returns-clause-only
returns-clause-only c = shares_are_only (returns-clause-shares c)

pub returns-clause-whole : goal.returns-clause-whole
returns-clause-whole c = shares_are_whole c.in_ok-total.ensures.total.0.1 (returns-clause-shares c)

pub returns-clause-near : goal.returns-clause-near
returns-clause-near c = shares_are_near (returns-clause-shares c)
