-- Lemmas for the proofs of callers, in addition to the laws.
-- ---- divisors and multiples

pub use Rattle.integer_core.proofs.CommonDivisors.{divides_multiple, gcd_times, lcm_zero, only_lcm}
pub use Rattle.integer_core.proofs.Divisibility.{Divides_antisym, Divides_cancel, Divides_refl, Divides_sum, Divides_times, Divides_trans, Divides_zero, cancel, divides_magnitude, divides_or_not, divisor_size, gcd_divisor, gcd_nonzero, gcd_positive, gcd_swap, gcd_zero, magnitude_divides, one_divides, only_gcd, zero_divides}
pub use Rattle.integer_core.proofs.OddParts.{shift_back}
-- ---- quotients and remainders

pub use Rattle.integer_core.proofs.Divisibility.{exact_quotient, rest_is}
pub use Rattle.integer_core.proofs.Quotients.{floored_remainder_within, only_ceiled, only_floored, only_truncated, other_quotient_fits, remainder_within, truncated_is, zero_or_not}
-- ---- what fits

pub use Rattle.integer_core.proofs.CommonDivisors.{gcd_fits_is}
pub use Rattle.integer_core.proofs.Ranges.{LiesWithin, no_minus_one, one_fits, within_fits, zero_fits}
pub use Rattle.num_integer.proofs.FittingAnswers.{fits_below, sum_fits_exactly}
pub use Rattle.num_integer.proofs.FlooredProducts.{part_fits}
-- ---- results of a wider type

pub use Rattle.num_integer.proofs.CheckedAnswers.{narrowed, none_narrower}
-- ---- what tests and checked calls say

pub use Rattle.integer_core.proofs.Whole.{from_not_less, from_test}
pub use Rattle.num_integer.proofs.CheckedAnswers.{answer_only, answers_as, answers_only, some_in_domain}
pub use Rattle.num_integer.proofs.FittingAnswers.{signed_is}
pub use Rattle.num_integer.proofs.PassedOn.{quotient_passed_on}
-- ---- rulesets, for `omega`, `grind` and `simp`
-- `omega (arith, linear)` proves equations and inequalities of integers that are linear. `sizes` is `linear` with magnitudes,
-- and `products` is `linear` with products. `simp expand` multiplies out both sides of an equation. `comm` says that a · b is b · a.
--
-- To prove an equation of products, multiply out what you know, and then the goal:
--
--     times : (a b d q r : ℤ) → a ≡ q *ℤ b +ℤ r → a *ℤ d ≡ q *ℤ (b *ℤ d) +ℤ r *ℤ d
--     times a b d q r e =
--         let each = simp expand at (ap (λ (t : ℤ). t *ℤ d) e) in
--         simp expand (omega (arith, linear))

pub use Rattle.integer_core.proofs.Whole.{expand, linear, products, sizes, comm, dist, dist_left, mul_neg, mul-one, neg_mul}
-- ---- smallest and largest numbers

pub use Rattle.integer_core.proofs.Least.{greatest_is_only, least_is_only}
-- ---- inequalities between products

pub use Rattle.integer_core.proofs.Whole.{product_positive}
pub use Rattle.integer_core.proofs.OrderedProducts.{product_from_zero, multiples_apart, product_at_most, factor_positive}
-- ---- quotients, remainders and multiples by a positive number

pub use Rattle.integer_core.proofs.FlooredByPositive.{floored_range, floored_remainder_range, floored_by_range, only_pair_by_range, rest_leads_to_multiple, ceiled_remainder_range, ceiled_by_range, ceiled_quotient_least, next_multiple_least, least_multiple_beyond, positive_quotient_fits, operator_quotient_fits}
-- ---- sizes of divisors and multiples

pub use Rattle.integer_core.proofs.DivisorSizes.{divisor_at_most, gcd_with_positive_fits, gcd_at_most, small_multiple_is_zero, lcm_at_most_product, lcm_positive}
pub use Rattle.num_integer.proofs.Multiples.{first_multiple_answers, first_multiple_at_u64, first_natural_multiple, lcm_is_first, natural_gcd_at_most}
-- ---- even numbers

pub use Rattle.num_integer.proofs.Multiples.{even_or_next, not_both_even}
-- ---- sums of divisors

pub use Rattle.num_integer.proofs.DivisorSums.{divisor_added, divisor_passed, divisor_steps, no_divisors}
-- ---- coprime numbers

pub use Rattle.integer_core.proofs.Coprimes.{Divides_difference, coprime_exactly, divided_by_gcd, natural_gcd_positive, natural_exact_quotient, natural_quotients_coprime, coprime_divides}
-- ---- powers and roots

pub use Rattle.integer_roots.proofs.MagnitudeRoots.{first_root, root_in_range}
pub use Rattle.integer_roots.proofs.OnlyAnswers.{root_is_only_one}
pub use Rattle.integer_core.proofs.IntegerPowers.{power_of_one, power_of_zero}
pub use Rattle.integer_roots.proofs.Powers.{power_of_power}
pub use Rattle.integer_core.proofs.IntegerPowers.{even_or_odd, even_power, int_pow_suc, int_pow_zero, odd_power, power_of_square, power_size}
pub use Rattle.num_integer.proofs.Powers.{int_pow_add, natural_power, root_by_squares, exact_power_root, square_root_of_square}
-- ---- coefficients

pub use Rattle.num_integer.proofs.Pascal.{coefficient_pos, coefficient_zero, factorial_pos, none_above, pascal, coefficient_grows}
-- ---- the operators of the natural numbers

pub use Rattle.integer_core.proofs.NaturalDivision.{quotient_is_natural, remainder_is_natural, division_is_natural, natural_quotient_fits, divides_is_natural, least_turns, quotients_grow, near}
-- ---- texts

pub use Rattle.integer_core.proofs.IntegerTexts.{decimal_model}
-- ---- literals

pub use Rattle.num_integer.proofs.Multiples.{euclid, lcm_number, literal_lcm_fits, literal_lcm_fits_signed}
-- ---- division by literals

pub use Rattle.integer_core.proofs.NaturalDivision.{floored_quotient_range, ceiled_quotient_range, divides_by_magnitude}
