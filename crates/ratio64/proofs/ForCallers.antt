-- Lemmas for the proofs of callers, in addition to the laws.
-- ---- what a result says

pub use Rattle.ratio64.proofs.FractionAnswers.{answer_is_ok, err_is_outside, exact_answer, exact_is_inside, ok_is_inside, zero_exactly, zero_factor}
pub use Rattle.ratio64.proofs.FittingParts.{positive_is_answered, positive_over_other}
-- ---- a value after `unwrap`, `?` and `.ok()?`

pub use Rattle.ratio64.proofs.FractionAnswers.{at_ok, at_some, ok_is_exact, some_is_exact, none_is_outside}
pub use Rattle.ratio64.proofs.UnwrappedFractions.{exact_of_words, unwrapped_is_exact}
pub use Rattle.ratio64.proofs.PassedOn.{first_does_not_fit, none_as, quotient_times_passed_on, rounded_times_passed_on, rounded_even_times_passed_on, times_passed_on}
-- ---- the size of an exact result

pub use Rattle.ratio64.proofs.FittingParts.{common_factor, exact_parts_at_most, positive_denominator_inside, small_parts_inside}
-- ---- exact results

pub use Rattle.ratio64.proofs.ExactResults.{only_exact_result, quotient_is_exact, reduced_is_exact, whole_exactly, whole_is_exact, whole_is_multiple, zero_is_over_one}
-- ---- reduced pairs

pub use Rattle.ratio64.specs.ReducedPairs.{AreEqual_sym, IsReduced_prop, denominator_divides, equal_where_same, gcd_prop, gcd_one_prop, positive_is_nonzero, same_pair}
pub use Rattle.ratio64.proofs.ReducedParts.{magnitude_reduced, negated_reduced, remainder_reduced}
-- ---- the order, by cross multiplication

pub use Rattle.ratio64.proofs.Comparisons.{equal_exactly, equal_fractions_compare_alike, natural_fractions_compare_alike, natural_reduced_alike, greater_exactly, less_exactly}
-- ---- equal fractions, their sums and products

pub use Rattle.ratio64.proofs.EqualFractions.{equal_exact, equal_fractions_answered_alike, equal_outside, nonzero_product, product_of_exact_results, sum_of_exact_results, times_of_exact_result}
-- ---- equal fractions, rounded

pub use Rattle.ratio64.proofs.EqualQuotients.{equal_times, equal_floored, equal_ceiled, equal_rounded, equal_rounded_even, floored_in_parts, ceiled_in_parts, rounded_in_parts, rounded_even_in_parts, times_rounded_even}
-- ---- equal fractions, small denominators and small parts

pub use Rattle.ratio64.proofs.EqualNearest.{nearest_of_equal, nearest_parts_of_equal}
-- ---- powers

pub use Rattle.ratio64.proofs.FractionPowers.{base_fits, equal_powers, power_nonzero, power_of_product, power_reduced}
-- ---- rounding

pub use Rattle.ratio64.proofs.NearestNumbers.{quotient_fits, quotient_is_only, rounded_division}
-- ---- numbers in 128 bits

pub use Rattle.ratio64.proofs.WideSums.{difference_below, read, read_product, sum_below}
