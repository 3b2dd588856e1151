use Rattle.num_integer.proofs.Common.{◌≡◌, ◌/◌, ◌≤ℤ◌, ℤ, pos, negsuc, unsigned_abs, int_div, arith, refl, ◌∙◌, fits_below, ints}
use Rattle.num_integer.proofs.checked.coefficients.half.Goals as goal

-- half of a number that is not negative
half_is : (n : ℤ) → pos 0 ≤ℤ n → int_div n (pos 2) ≡ pos (unsigned_abs n / 2)
half_is (pos n) up = refl
half_is (negsuc n) up = absurd (omega (arith, ints))

pub successor-requires-clause-sum_fits : goal.successor-requires-clause-sum_fits
successor-requires-clause-sum_fits g c =
    fits_below g.met.T.Integer.range_law c.requires.in_range (omega (arith, ints, c.one-then-is_below.ensures.value)) (omega (arith, ints, c.one.ensures.value, c.one-then-is_below.ensures.value))

pub positive_quotient-requires-clause-positive : goal.positive_quotient-requires-clause-positive
positive_quotient-requires-clause-positive g c = omega (arith, ints, c.one-then-is_below.ensures.value, c.successor.ensures.value)

pub returns-then-is_below-clause-value : goal.returns-then-is_below-clause-value
returns-then-is_below-clause-value g c =
    c.positive_quotient.ensures.value ∙ rw (c.successor.ensures.value, c.one-then-is_below.ensures.value) (half_is (g.T.Number.value c.args.n) c.requires.from_zero)
