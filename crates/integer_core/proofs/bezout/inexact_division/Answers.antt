use Rattle.integer_core.proofs.ForAnswers.{iff_false, Divides-minus_one, divides_from_exact, exact_from_divides, other_quotient_fits}
use Rattle.integer_core.proofs.bezout.inexact_division.Goals as goal

pub returns-then-is_minus_one : goal.returns-then-is_minus_one
returns-then-is_minus_one g c = rw (c.is_minus_one.ensures.0 c.if-is_minus_one.true) (Divides-minus_one _)

pub div_rem-quotient-requires-clause-quotient_fits : goal.div_rem-quotient-requires-clause-quotient_fits
div_rem-quotient-requires-clause-quotient_fits g c q h =
    let other = iff_false c.is_minus_one.ensures c.if-is_minus_one.false in
    other_quotient_fits g.met.T.Integer.range_law c.requires.in_range.0 c.requires.in_range.1 other h.division.division

pub returns-then-is_zero : goal.returns-then-is_zero
returns-then-is_zero g c = divides_from_exact c.div_rem-quotient.ensures.truncated.division (c.is_zero.ensures.0 c.if-is_zero.true)

pub returns-else-is_zero : goal.returns-else-is_zero
returns-else-is_zero g c =
    let goes_on = iff_false c.is_zero.ensures c.if-is_zero.false in
    let parts = c.div_rem-quotient.ensures in
    (λ divides. goes_on (exact_from_divides parts.truncated.division divides), (parts.in_range, parts.truncated))
