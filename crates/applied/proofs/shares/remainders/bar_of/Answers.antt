use Rattle.applied.proofs.Common.{◌≡◌, ◌+◌, ◌-◌, ◌/◌, ◌<◌, arith, lt_of_not-le}
use Rattle.applied.proofs.LargestRemainders.{none_reached}
use Rattle.applied.proofs.shares.remainders.bar_of.Goals as goal

pub loop-low-init : goal.loop-low-init
loop-low-init c = record {
  positive = omega arith;
  ordered = omega arith;
  within = omega arith;
  count = omega (arith, none_reached c.args.amount c.args.total c.args.weights.now c.requires.some);
  enough = λ b some next. absurd (omega arith);
}

pub loop-low-preserved : goal.loop-low-preserved
loop-low-preserved c = record {
  positive = omega arith;
  ordered = omega arith;
  within = c.loop-low.invariant.within;
  count = c.loop-low.invariant.count;
  enough = λ b some next.
      let middle : b ≡ c.loop-low.low + (c.loop-low.bar - c.loop-low.low) / 2 = omega arith in
      rw middle (omega (arith, c.reaching-count.ensures));
}

pub returns-after-loop-low-clause-left : goal.returns-after-loop-low-clause-left
returns-after-loop-low-clause-left c = λ some.
    let high : 1 < c.loop-low.bar = lt_of_not-le (λ low.
    let one : c.loop-low.bar ≡ 1 = omega arith in
    omega (arith, rw one at c.loop-low.invariant.count, c.units_over-units.ensures.enough)) in
    (high, omega (arith, c.loop-low.invariant.count, c.loop-low.invariant.enough (c.loop-low.bar - 1) (omega arith) (omega arith)))
