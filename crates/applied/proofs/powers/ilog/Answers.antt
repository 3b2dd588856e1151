-- Each iteration divides the rest by the base. When the rest is below the base, the number of divisions is the logarithm.
use Rattle.applied.proofs.Common.{arith, from_test}
use Rattle.applied.proofs.PowersAndRoots.{divided_last, divided_next, divided_smaller, few_divisions}
use Rattle.applied.proofs.powers.ilog.Goals as goal

pub loop-base-smaller : goal.loop-base-smaller
loop-base-smaller g c = rw c.quotient-rest.ensures.value (divided_smaller _ _ c.requires.base c.loop-base.invariant.divided.positive)

pub overflow_add-degree : goal.overflow_add-degree
overflow_add-degree g c =
    omega (arith, few_divisions g.met.T.Integer.range_law c.requires.in_range.0 c.requires.positive c.requires.base c.loop-base.invariant.divided)

pub loop-base-preserved : goal.loop-base-preserved
loop-base-preserved g c = grind (arith, from_test, divided_next, c.is_below-in-loop-base.ensures, c.loop-base-test.true, c.quotient-rest.ensures.in_range, c.quotient-rest.ensures.value, c.requires.base, c.loop-base.invariant.divided)

pub returns : goal.returns
returns g c = record {
  logarithm = divided_last c.requires.base c.requires.positive (c.is_below-in-loop-base.ensures.0 c.loop-base-test.false) c.loop-base.invariant.divided;
  few = few_divisions g.met.T.Integer.range_law c.requires.in_range.0 c.requires.positive c.requires.base c.loop-base.invariant.divided;
}
