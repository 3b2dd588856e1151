use Rattle.num_integer.proofs.Common.{◌+◌, unsigned_abs, arith, ◌∙◌, ints, few_bits, from_test}
use Rattle.num_integer.proofs.Pascal.{coefficient_zero, none_above, power_below_answer}
use Rattle.num_integer.proofs.RowSteps.{last_coefficient, next_coefficient_fits, next_place_fits}
use Rattle.num_integer.proofs.coefficients.coefficient_counted.Goals as goal

pub returns-then-is_below-clause-coefficient : goal.returns-then-is_below-clause-coefficient
returns-then-is_below-clause-coefficient g c = grind (arith, none_above, unsigned_abs, ints, g.T.Number.value, c.if-is_below.true)

pub loop-n-init : goal.loop-n-init
loop-n-init g c = grind (arith, ints, coefficient_zero, c.zero-place.ensures.in_range, c.one-coefficient.ensures.in_range, c.nearer_end-last.ensures.lesser)

pub next_coefficient-coefficient-requires-clause-next_fits : goal.next_coefficient-coefficient-requires-clause-next_fits
next_coefficient-coefficient-requires-clause-next_fits g c =
    next_coefficient_fits g.met.T.Integer.range_law (omega (arith, ints)) c.requires.k_from_zero (from_test c.is_below.ensures c.if-is_below.false) c.nearer_end-last.ensures.lesser
    c.requires.coefficient_fits (c.is_below-in-loop-n.ensures.0 c.loop-n-test.true)

pub successor-place-requires-clause-sum_fits : goal.successor-place-requires-clause-sum_fits
successor-place-requires-clause-sum_fits g c =
    next_place_fits g.met.T.Integer.range_law (omega (arith, ints)) c.requires.k_from_zero (from_test c.is_below.ensures c.if-is_below.false) c.nearer_end-last.ensures.lesser
    c.requires.n_in_range (c.is_below-in-loop-n.ensures.0 c.loop-n-test.true)

pub overflow_add-iterations : goal.overflow_add-iterations
overflow_add-iterations g c =
    let power = power_below_answer (unsigned_abs (g.T.Number.value c.args.n)) (unsigned_abs (g.T.Number.value c.args.k)) (c.loop-n.iterations + 1) (omega (arith, ints)) (omega (arith, ints)) in
    omega (arith, few_bits _ _ g.met.T.Integer.range_law c.requires.coefficient_fits power)

pub returns-clause-coefficient : goal.returns-clause-coefficient
returns-clause-coefficient g c =
    c.loop-n.invariant.coefficient ∙ last_coefficient g.met.T.Integer.range_law (omega (arith, ints)) c.requires.k_from_zero (from_test c.is_below.ensures c.if-is_below.false)
    c.nearer_end-last.ensures.lesser c.loop-n.invariant.within (from_test c.is_below-in-loop-n.ensures c.loop-n-test.false)

pub returns-clause-iterations : goal.returns-clause-iterations
returns-clause-iterations g c = omega (arith, ints, from_test c.is_below-in-loop-n.ensures c.loop-n-test.false)

pub returns-clause-bound : goal.returns-clause-bound
returns-clause-bound g c = λ within. power_below_answer _ _ _ (omega (arith, ints)) (omega (arith, ints))
