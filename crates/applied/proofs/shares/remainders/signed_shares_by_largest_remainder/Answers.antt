use Rattle.applied.proofs.Common.{FitsSigned, w64, arith, rules, to_z-of_z}
use Rattle.applied.proofs.LargestRemainders.{all_raised, one_more_raised, shares_by_remainder_are_only}
use Rattle.applied.proofs.WeightedShares.{all_signed, one_more_signed, same_of_sign, whole_of_sign}
use Rattle.applied.proofs.shares.remainders.signed_shares_by_largest_remainder.Goals as goal

pub loop-i-preserved : goal.loop-i-preserved
loop-i-preserved c =
    let share : FitsSigned w64 c.with_magnitude.result = search rules in
    let sign = c.with_magnitude.ensures in
    let own = c.rounded_share-share.ensures in
    let bar = c.bar_of-bar.ensures in
    rw (to_z-of_z w64 c.with_magnitude.result share) (one_more_signed sign.from_zero sign.below_zero (rw (← c.unsigned_abs-magnitude.ensures.value) own.within)
    (omega (arith, c.loop-i.invariant.magnitudes.one_each)) (λ h. one_more_raised _ _ c.loop-i-test.true h bar.bar (λ some. (bar.left some).0) own.rounds) c.loop-i.invariant)

pub returns-clause-shares : goal.returns-clause-shares
returns-clause-shares c =
    let total = c.in_ok-total.ensures.total in
    let bar = c.bar_of-bar.ensures in
    let own = rw (to_z-of_z w64 c.args.amount c.ranges.amount) at c.loop-i.invariant in
    let same = rw (to_z-of_z w64 c.args.amount c.ranges.amount) at c.unsigned_abs-magnitude.ensures.value in
    let signs = all_signed (omega (arith, total)) own in
    let magnitudes = all_raised total.1 (omega arith) bar.units (λ some. (bar.left some).1) own.magnitudes in
    record { magnitudes = rw (← same) magnitudes; from_zero = signs.0; to_zero = signs.1 }

pub returns-clause-only : goal.returns-clause-only
returns-clause-only c =
    let h = returns-clause-shares c in
    λ other k. same_of_sign (h.from_zero, h.to_zero) (k.from_zero, k.to_zero) (shares_by_remainder_are_only _ _ _ h.magnitudes _ k.magnitudes)

pub returns-clause-whole : goal.returns-clause-whole
returns-clause-whole c =
    let h = returns-clause-shares c in
    whole_of_sign _ (h.from_zero, h.to_zero) h.magnitudes.whole
