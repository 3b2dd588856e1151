use Rattle.callers.proofs.Common.{arith, lcm_of_more, lcm_of_none, map_more, pos, take_all, ℕ, ◌+◌}
use Rattle.callers.proofs.lists.period_by_a_loop.Goals as goal

pub loop-next-init : goal.loop-next-init
loop-next-init c = record { in_range = omega arith; so_far = lcm_of_none }

pub returns-in_err-period : goal.returns-in_err-period
returns-in_err-period c = rw c.from_residual.ensures (
  c.loop-next.next-index + 1,
  λ fits. c.in_err-period.ensures (λ l is. fits l (rw (map_more (λ (x : ℕ). pos x) c.args.periods.now c.loop-next.next-index 0 (omega arith)) (lcm_of_more c.loop-next.invariant.so_far is))),
)

pub loop-next-preserved : goal.loop-next-preserved
loop-next-preserved c = record {
  in_range = c.in_ok-period.ensures.1.0;
  so_far = rw (map_more (λ (x : ℕ). pos x) c.args.periods.now c.loop-next.next-index 0 (omega arith)) (lcm_of_more c.loop-next.invariant.so_far c.in_ok-period.ensures.1.1);
}

pub returns : goal.returns
returns c = rw (take_all c.loop-next.next-index c.args.periods.now (omega arith)) at c.loop-next.invariant.so_far
