use Rattle.applied.proofs.Common.{FitsSigned, w64, arith, rules, to_z-of_z}
use Rattle.applied.proofs.WeightedShares.{all_shared, all_signed, one_more_shared, one_more_signed, same_of_sign, shares_are_only, shares_are_whole, whole_of_sign}
use Rattle.applied.proofs.shares.signed_shares.Goals as goal

pub loop-i-preserved : goal.loop-i-preserved
loop-i-preserved c =
    let share : FitsSigned w64 c.with_magnitude.result = search rules in
    let sign = c.with_magnitude.ensures in
    let own = c.next_share-share.ensures in
    let size = c.unsigned_abs.ensures.value in
    rw (to_z-of_z w64 c.with_magnitude.result share) (one_more_signed sign.from_zero sign.below_zero (rw (← size) own.within)
    (omega (arith, c.loop-i.invariant.magnitudes.one_each)) (one_more_shared _ c.loop-i-test.true (rw (← size) own.share) own.below) c.loop-i.invariant)

pub returns-clause-shares : goal.returns-clause-shares
returns-clause-shares c =
    let own = rw (to_z-of_z w64 c.args.amount c.ranges.amount) at c.loop-i.invariant in
    let signs = all_signed (omega (arith, c.in_ok-total.ensures.total)) own in
    record { magnitudes = all_shared c.in_ok-total.ensures.total.1 (omega arith) own.magnitudes; from_zero = signs.0; to_zero = signs.1 }

pub returns-clause-only : goal.returns-clause-only
returns-clause-only c =
    let h = returns-clause-shares c in
    λ other k. same_of_sign (h.from_zero, h.to_zero) (k.from_zero, k.to_zero) (shares_are_only h.magnitudes _ k.magnitudes)

pub returns-clause-whole : goal.returns-clause-whole
returns-clause-whole c =
    let h = returns-clause-shares c in
    whole_of_sign _ (h.from_zero, h.to_zero) (shares_are_whole c.in_ok-total.ensures.total.0.1 h.magnitudes)
