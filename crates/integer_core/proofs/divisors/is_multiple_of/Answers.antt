use Rattle.integer_core.proofs.ForAnswers.{arith, rules, iff_false, linear, truncated_is, other_quotient_fits, Divides_zero, zero_divides, Divides-minus_one, exact_from_divides, divides_from_exact}
use Rattle.integer_core.proofs.divisors.is_multiple_of.Goals as goal

pub remainder-requires-clause-quotient_fits : goal.remainder-requires-clause-quotient_fits
remainder-requires-clause-quotient_fits g c =
    let division = (truncated_is _ _ (iff_false c.is_zero.ensures c.if-is_zero.false)).division in
    other_quotient_fits g.met.T.Native.native_law.range c.requires.in_range.0 c.requires.in_range.1 (grind (arith, linear)) division

pub returns-then-is_zero : goal.returns-then-is_zero
returns-then-is_zero g c = rw (c.is_zero.ensures.0 c.if-is_zero.true) (λ t. rw (c.is_zero-then-is_zero.ensures.0 t) (Divides_zero _), λ h. c.is_zero-then-is_zero.ensures.1 (zero_divides h))

pub returns-then-is_minus_one : goal.returns-then-is_minus_one
returns-then-is_minus_one g c = rw (c.is_minus_one.ensures.0 c.if-is_minus_one.true) (search (rules, Divides-minus_one))

pub returns-else-is_minus_one : goal.returns-else-is_minus_one
returns-else-is_minus_one g c =
    let division = (truncated_is (g.T.Number.value c.args.n) (g.T.Number.value c.args.d) (iff_false c.is_zero.ensures c.if-is_zero.false)).division in
    grind (arith, linear, divides_from_exact division, exact_from_divides division)
