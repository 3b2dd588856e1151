use Rattle.num_integer.proofs.Common.{unsigned_abs, arith, ◌∙◌, subst, ints, from_test}
use Rattle.num_integer.proofs.Pascal.{coefficient_zero, none_above}
use Rattle.num_integer.proofs.RowSteps.{last_coefficient, next_coefficient_fits, next_place_fits}
use Rattle.num_integer.proofs.checked.coefficients.binomial.Goals as goal

pub returns-then-is_below : goal.returns-then-is_below
returns-then-is_below g c = grind (arith, from_test, none_above, unsigned_abs, ints, c.is_negative.ensures, c.if-is_negative.false, c.is_negative-else-is_negative.ensures, c.if-is_negative-2.false, g.T.Number.value, c.is_below.ensures.0, c.zero.ensures.value)

pub loop-n-init : goal.loop-n-init
loop-n-init g c = grind (arith, ints, coefficient_zero, c.zero-place.ensures.in_range, c.zero-place.ensures.value)

pub returns-in_err-coefficient : goal.returns-in_err-coefficient
returns-in_err-coefficient g c =
    rw c.from_residual.ensures (λ domain. c.in_err-coefficient.ensures (rw c.next_factors-x.ensures.product
    (next_coefficient_fits g.met.T.Integer.range_law c.loop-n.invariant.from_zero domain.1 (from_test c.is_below.ensures c.if-is_below.false) c.nearer_end-last.ensures.lesser
    domain.2 (c.is_below-in-loop-n.ensures.0 c.loop-n-test.true))))

pub successor-place-requires-clause-sum_fits : goal.successor-place-requires-clause-sum_fits
successor-place-requires-clause-sum_fits g c =
    let k = from_test c.is_negative-else-is_negative.ensures c.if-is_negative-2.false in
    next_place_fits g.met.T.Integer.range_law c.loop-n.invariant.from_zero k (from_test c.is_below.ensures c.if-is_below.false) c.nearer_end-last.ensures.lesser
    c.requires.n_in_range (c.is_below-in-loop-n.ensures.0 c.loop-n-test.true)

pub returns : goal.returns
returns g c =
    let n = from_test c.is_negative.ensures c.if-is_negative.false in
    let k = from_test c.is_negative-else-is_negative.ensures c.if-is_negative-2.false in
    let is =
    c.loop-n.invariant.coefficient ∙ last_coefficient g.met.T.Integer.range_law c.loop-n.invariant.from_zero k (from_test c.is_below.ensures c.if-is_below.false)
    c.nearer_end-last.ensures.lesser c.loop-n.invariant.within (from_test c.is_below-in-loop-n.ensures c.loop-n-test.false) in
    ((n, k, subst g.T.Number.fits is c.loop-n.invariant.in_range), (c.loop-n.invariant.in_range, is))
