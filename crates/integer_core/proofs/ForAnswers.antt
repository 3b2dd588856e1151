-- The names that the answers cite, passed on from one place. Declares nothing.
pub use Rattle.integer_core.proofs.BezoutAnswers.{answer_for_zero, answer_of_loop, only_answer, sign_keeps, sign_size}
pub use Rattle.integer_core.proofs.Common.{List, None, ap, arith, cases_eq, iff_false, inl, inr, length, linear, refl, rules, sizes, subst, sym, unsigned_abs, w128, w64, ℕ, ℤ, ◌+◌, ◌-◌, ◌<◌, ◌^◌, ◌∙◌, ◌≡◌}
pub use Rattle.integer_core.proofs.CommonDivisors.{gcd-magnitudes, gcd_nonzero, gcd_swap, gcd_fits_is, lcm-magnitudes, lcm-of-sizes, lcm_zero, lcm_is_there, lcm_there, lcm_told, Divides-minus_one, Divides_zero, divides_from_exact, exact_from_divides, zero_divides, lcm_is_magnitude, magnitude_by_distance, within_fits}
pub use Rattle.integer_core.proofs.EuclidIterations.{inexact, lame}
pub use Rattle.integer_core.proofs.NaturalGcd.{gcd_of_odd_parts, gcd_of_sizes}
pub use Rattle.integer_core.proofs.OddParts.{difference_by_shift, few_iterations, iterations_fit, odd_part_by_shift, odd_part_le, turning_falls}
pub use Rattle.integer_core.proofs.PaddedTexts.{kept_is_written, number_without_minus, padded_number_plain, padded_text_plain, padded_written, plain_from_styled, repeat_more, width_or_zero, fill_before, padded_number, padded_text, has_written_styled_append, has_written_styled_of_eq, HasWrittenStyled, IsFlush, WritesStyledOnOk, repeat}
pub use Rattle.integer_core.proofs.Quotients.{ceiled_above, ceiled_exact, floored_below, floored_by_minus_one, floored_fits, floored_remainder_fits, floored_same, gap_fits, inexact_quotient_fits, next_above, next_exact, other_quotient_fits, remainder_within, truncated_fits, truncated_is}
pub use Rattle.integer_core.proofs.Rows.{RowsFit, first_fits, iteration_fits, last_after_iterations, last_at_once, last_gcd, rows_few, rows_fit_first, rows_fit_iteration, sign_fits}
pub use Rattle.integer_core.proofs.Runs.{reaches_last}
pub use Rattle.integer_core.proofs.SteinSteps.{OddLoop, counted_by_magnitudes, gcd_fits, gcd_of_power, odd_gcd_positive, gcd_with_zero, loop_begins, loop_counts, loop_ends, loop_goes_on, loop_handed_on, power_of_smallest}
pub use Rattle.std.proofs.Common.{encode_utf8, unwrap_or}
pub use Rattle.std.proofs.Math.Numerals.{add-two}
pub use Rattle.std.proofs.lemmas.Str.Pattern.{strip_prefix_char}
