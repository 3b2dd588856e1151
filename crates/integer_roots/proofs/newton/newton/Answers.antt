use Rattle.integer_roots.proofs.Common.{rules, arith, begins, rises, goes_over, falls}
use Rattle.integer_roots.proofs.newton.newton.Goals as goal

pub step-next-requires : goal.step-next-requires
step-next-requires g c = let may = c.requires _ _ begins in search rules

pub step-next-requires-in-rise : goal.step-next-requires-in-rise
step-next-requires-in-rise g c =
    let may = c.requires _ _ (rises c.rise.invariant.reached c.rise.invariant.next_is c.rise-test.true) in search rules

pub overflow_add-iterations : goal.overflow_add-iterations
overflow_add-iterations g c =
    omega (arith, (c.requires _ _ (rises c.rise.invariant.reached c.rise.invariant.next_is c.rise-test.true)).1)

pub fall-init : goal.fall-init
fall-init g c =
    let v = c.rise.invariant in
    record { reached = goes_over v.reached v.next_is c.rise-test.false; next_is = v.next_is }

pub step-next-requires-in-fall : goal.step-next-requires-in-fall
step-next-requires-in-fall g c =
    let may = c.requires _ _ (falls c.fall.invariant.reached c.fall.invariant.next_is c.fall-test.true) in search rules

pub overflow_add-iterations-in-fall : goal.overflow_add-iterations-in-fall
overflow_add-iterations-in-fall g c =
    omega (arith, (c.requires _ _ (falls c.fall.invariant.reached c.fall.invariant.next_is c.fall-test.true)).1)
