use Rattle.std.proofs.Common.{◌≡◌, arith, refl}
use Rattle.applied.proofs.ForCallers.{items_pushed, sum_of_instalments}
use Rattle.callers.proofs.everyday.payment_plan.Goals as goal

pub loop-k-preserved : goal.loop-k-preserved
loop-k-preserved c = items_pushed _ _ _ _ c.in_ok-push.ensures.items c.loop-k.invariant c.in-Some.ensures

pub returns : goal.returns
returns c =
    let end : c.loop-k.k ≡ c.args.count = omega arith in
    let (size, each) = rw end at c.loop-k.invariant in
    (size, sum_of_instalments _ _ _ c.requires size each (λ x p. p.1 refl) (λ k x p. p.2 (omega arith)), each)
