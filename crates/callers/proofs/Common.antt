-- The names of the libraries that the proofs cite, passed on from one place. Declares nothing.
pub use Rattle.std.proofs.Common.{ap, append_assoc, arith, get_or, inr, min, refl, rules, subst, sum, sym, ◌-◌, ◌∙◌}
pub use Rattle.std.proofs.Math.IntN.{pos-*ℤ-pos}
pub use Rattle.std.proofs.lemmas.Bool.Decides.{nat_tests}
pub use Rattle.std.proofs.lemmas.Int.{ints, to_z-of_z}
pub use Rattle.std.proofs.lemmas.List.{append-nil, map-append, map_more, take_all}
pub use Rattle.std.proofs.lemmas.List.Sums.{sum_by-take-le, sum_by_more}
pub use Rattle.std.specs.Int.{FitsUnsignedBits, w128, w64}
pub use Rattle.std.specs.Prelude.{FitsSigned, IfSome, List, MatchOption, None, Option, Result, Some, [], false, map, pos, slice_index, take, true, unsigned_abs, ℕ, ℤ, ◌%◌, ◌*ℤ◌, ◌*◌, ◌++◌, ◌+ℤ◌, ◌+◌, ◌-ℤ◌, ◌<◌, ◌^◌, ◌↔◌, ◌∷◌, ◌≡◌, ◌≤◌}
pub use Rattle.num_integer.proofs.ForCallers.{floored_remainder_range, lcm_at_most_product, literal_lcm_fits, literal_lcm_fits_signed, narrowed, none_narrower, product_at_most, product_positive, sizes}
pub use Rattle.num_integer.specs.DivisorSums.{IsSumOfDivisorsTo}
pub use Rattle.num_integer.specs.Row.{row_of}
pub use Rattle.modular.proofs.ForCallers.{congruent_difference, congruent_refl, congruent_sum, congruent_sym, congruent_trans, congruent_is_natural, odd_coprime}
pub use Rattle.modular.proofs.Laws.{exponents_add}
pub use Rattle.modular.specs.Congruences.{AreCongruent, IsResidue}
pub use Rattle.applied.proofs.ForCallers.{lcm_of_more, lcm_of_none}
pub use Rattle.applied.proofs.Laws.{nearest_even_quotient_is_only}
pub use Rattle.applied.specs.Lists.{IsLeastCommonMultipleOf}
pub use Rattle.calendar.proofs.ForCallers.{months_after_exists, next_month_is_later}
pub use Rattle.calendar.proofs.Laws.{date_is_only, iso_day_is_only, iso_week_is_only, iso_week_of_numbers_is_only, weeks_of_a_year}
pub use Rattle.calendar.specs.Dates.{number_of}
pub use Rattle.calendar.specs.IsoWeeks.{IsDayOfIsoWeek, IsInIsoWeek}
pub use Rattle.calendar.specs.declared.date.Date.{Date}
pub use Rattle.calendar.specs.declared.iso_weeks.IsoWeek.{IsoWeek}
pub use Rattle.calendar.specs.declared.weekday.Weekday.{Weekday}
pub use Rattle.ratio64.proofs.ForCallers.{ceiled_in_parts, err_is_outside, exact_of_words, nearest_of_equal, nearest_parts_of_equal, nonzero_product, ok_is_inside, positive_is_nonzero, product_of_exact_results, reduced_is_exact, sum_of_exact_results, unwrapped_is_exact}
pub use Rattle.ratio64.proofs.Laws.{text_is_read_back}
pub use Rattle.ratio64.specs.Fraction.{IsExact}
pub use Rattle.ratio64.specs.Ratio.{AnswersFraction, den_of, num_of, text_of}
pub use Rattle.ratio64.specs.RatioText.{ReadsFraction}
pub use Rattle.ratio64.specs.declared.error.RatioError.{RatioError}
pub use Rattle.ratio64.specs.declared.fraction.Ratio.{Ratio}
