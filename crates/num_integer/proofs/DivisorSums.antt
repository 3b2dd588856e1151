-- Sums of divisors, a number further at a time.
use Rattle.num_integer.proofs.Common.{◌≡◌, ◌+◌, ℕ, pos, zero, suc, Divides, add-one, arith, inl, inr, refl, ints}
use Rattle.integer_core.proofs.Divisibility.{divides_or_not}
use Rattle.integer_core.proofs.DivisorSizes.{divisor_at_most}
use Rattle.num_integer.specs.DivisorSums.{IsSumOfDivisorsTo}
use Rattle.num_integer.specs.Laws as law

-- No number is from 1 to 0.
pub no_divisors : (n : ℕ) → IsSumOfDivisorsTo n 0 0
unfolding IsSumOfDivisorsTo
no_divisors n = refl

-- A divisor is added.
pub divisor_added : (n k total : ℕ) → IsSumOfDivisorsTo n k total → Divides (pos (k + 1)) (pos n) → IsSumOfDivisorsTo n (k + 1) (total + (k + 1))
unfolding IsSumOfDivisorsTo
divisor_added n k total before divides = rw (add-one k) (total, before, inl (rw (add-one k) at divides, refl))

-- Another number is not.
pub divisor_passed : (n k total : ℕ) → IsSumOfDivisorsTo n k total → ¬ (Divides (pos (k + 1)) (pos n)) → IsSumOfDivisorsTo n (k + 1) total
unfolding IsSumOfDivisorsTo
divisor_passed n k total before other = rw (add-one k) (total, before, inr ((λ divides. other (rw (add-one k) divides)), refl))

-- for the loop of a caller
pub ruleset divisor_steps = (no_divisors, divisor_added, divisor_passed)

-- each sum is the only one
pub sum_of_divisors_is_only : law.SumOfDivisorsIsOnly
unfolding IsSumOfDivisorsTo
sum_of_divisors_is_only n zero s none t other_none = omega arith
sum_of_divisors_is_only n (suc k) s (before, h, inl (divides, is)) t (other, o, inl (o_divides, o_is)) = omega (arith, sum_of_divisors_is_only n k before h other o)
sum_of_divisors_is_only n (suc k) s (before, h, inl (divides, is)) t (other, o, inr (o_none, o_is)) = absurd (o_none divides)
sum_of_divisors_is_only n (suc k) s (before, h, inr (none, is)) t (other, o, inl (o_divides, o_is)) = absurd (none o_divides)
sum_of_divisors_is_only n (suc k) s (before, h, inr (none, is)) t (other, o, inr (o_none, o_is)) = omega (arith, sum_of_divisors_is_only n k before h other o)

pub sum_of_divisors_exists : law.SumOfDivisorsExists
unfolding IsSumOfDivisorsTo
sum_of_divisors_exists n zero = (0, refl)
sum_of_divisors_exists n (suc k) =
    let before = sum_of_divisors_exists n k in
    elim (divides_or_not (pos (suc k)) (pos n) (λ none. omega (arith, ints))) [
      | inl divides ↦ (before.0 + suc k, (before.0, before.1, inl (divides, refl)))
      | inr other ↦ (before.0, (before.0, before.1, inr (other, refl)))
    ]

-- no number above n divides it, so the sum goes no further
pub sum_of_divisors_ends_at_the_number : law.SumOfDivisorsEndsAtTheNumber
sum_of_divisors_ends_at_the_number n zero total up h = let e : n + 0 ≡ n = omega arith in rw e h
sum_of_divisors_ends_at_the_number n (suc k) total up h =
    let e : n + suc k ≡ n + k + 1 = omega arith in
    let before = sum_of_divisors_ends_at_the_number n k total up h in
    rw e (divisor_passed n (n + k) total before (λ divides. omega (arith, ints, divisor_at_most (omega (arith, ints)) divides)))
