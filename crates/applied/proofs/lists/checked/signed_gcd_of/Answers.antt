-- The loop keeps a number whose magnitude is the greatest common divisor of the numbers so far.
use Rattle.applied.proofs.Common.{◌+◌}
use Rattle.applied.proofs.ListDivisors.{gcd_of_next, gcd_of_one}
use Rattle.applied.proofs.lists.checked.signed_gcd_of.Goals as goal

pub returns-then-is_one-clause-magnitude : goal.returns-then-is_one-clause-magnitude
returns-then-is_one-clause-magnitude g c =
    gcd_of_one g.T.Number.value c.args.numbers.now (c.loop-number.number-index + 1) (c.is_one.ensures.0 c.if-is_one.true)
    (gcd_of_next g.T.Number.value c.args.numbers.now c.loop-number.number-index (g.T.Number.value c.loop-number.divisor) (g.T.Number.value c.divisor_of_both-divisor.result) c.loop-number.invariant.so_far c.loop-number-test.true c.number-item.is c.divisor_of_both-divisor.ensures.magnitude)

pub loop-number-preserved : goal.loop-number-preserved
loop-number-preserved g c = record {
  in_range = c.divisor_of_both-divisor.ensures.in_range;
  so_far = gcd_of_next g.T.Number.value c.args.numbers.now c.loop-number.number-index (g.T.Number.value c.loop-number.divisor) (g.T.Number.value c.divisor_of_both-divisor.result) c.loop-number.invariant.so_far c.loop-number-test.true c.number-item.is c.divisor_of_both-divisor.ensures.magnitude;
}
