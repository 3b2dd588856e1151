-- A list with a 0 has the least common multiple 0. Otherwise the loop keeps that of the numbers so far: if one of these does not fit, that of
-- the whole list does not fit either.
use Rattle.applied.proofs.Common.{refl, take_all}
use Rattle.applied.proofs.ListDivisors.{lcm_of_result, lcm_of_next, lcm_of_out_of_range, lcm_of_with_zero}
use Rattle.applied.proofs.lists.checked.lcm_of.Goals as goal

pub returns-then-has_zero : goal.returns-then-has_zero
returns-then-has_zero g c =
    let found = c.if-has_zero.ensures.zero refl in
    lcm_of_result g.T.Number.fits c.zero.ensures.in_range (rw c.zero.ensures.value (lcm_of_with_zero g.T.Number.value c.args.numbers.now found.0 found.1 found.2))

pub returns-in_err-multiple : goal.returns-in_err-multiple
returns-in_err-multiple g c = rw c.from_residual.ensures
    (lcm_of_out_of_range g.T.Number.value c.args.numbers.now c.loop-number.number-index g.met.T.Integer.range_law (c.if-has_zero.ensures.none refl)
    c.loop-number.invariant.so_far c.loop-number-test.true c.number-item.is c.in_err-multiple.ensures)

pub loop-number-preserved : goal.loop-number-preserved
loop-number-preserved g c = record {
  in_range = c.in_ok-multiple.ensures.1.0;
  so_far = lcm_of_next g.T.Number.value c.args.numbers.now c.loop-number.number-index c.loop-number.invariant.so_far c.loop-number-test.true c.number-item.is c.in_ok-multiple.ensures.1.1;
}

pub returns : goal.returns
returns g c = lcm_of_result g.T.Number.fits c.loop-number.invariant.in_range
    (rw (take_all c.loop-number.number-index c.args.numbers.now c.loop-number-test.false) at c.loop-number.invariant.so_far)
