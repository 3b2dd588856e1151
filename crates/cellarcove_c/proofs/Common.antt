-- The names of the libraries and of the specs that the proofs cite, passed on from one place. Declares nothing.
pub use Rattle.std.proofs.Common.{All, Fits, IsAscii, IsUtf8, ap, arith, decimal, div-lt_iff_lt-mul, get_or, inl, inr, mul-le-mul, mul-le-mul_right, of_z, refl, rules, set, subst, sym, take, to_z, ◌∙◌}
pub use Rattle.std.proofs.lemmas.Bool.{cases_lt, false≢true, iff_false}
pub use Rattle.std.proofs.lemmas.Fmt.{IsAscii-decimal}
pub use Rattle.std.proofs.lemmas.Grind.{common_steps}
pub use Rattle.std.proofs.lemmas.Int.{by_lt_z, ints, to_z-of_z, unsigned_abs-mul}
pub use Rattle.std.proofs.lemmas.List.{ext_get_or, get_or-append_right, get_or-map, get_or-take, get_or_append_left, length-map, length-take-le, map-id, map_more, take_all, take_more_set}
pub use Rattle.std.proofs.lemmas.List.Elements.{All-get_or, All-more, All-push, All-replicate, All-same, All-weaker}
pub use Rattle.std.proofs.lemmas.Str.{IsAscii-append, IsUtf8-from_ascii}
pub use Rattle.std.proofs.lemmas.Str.Ascii.{IsAscii-cons, IsAscii-from_all, IsAscii-push}
pub use Rattle.std.specs.Int.{int_pow, w64}
pub use Rattle.std.specs.Prelude.{Bool, Err, FitsSigned, IfSome, IsTrue, List, MatchOption, MatchResult, None, Ok, Option, Result, Some, [], length, map, min, negsuc, pos, replicate, suc, unsigned_abs, zero, ℕ, ℤ, ◌%◌, ◌*ℤ◌, ◌*◌, ◌++◌, ◌+ℤ◌, ◌+◌, ◌-ℤ◌, ◌-◌, ◌/◌, ◌<ℤ◌, ◌<◌, ◌^◌, ◌↔◌, ◌∷◌, ◌≡◌, ◌≢◌, ◌≤ℤ◌, ◌≤◌, ◌⊎◌}
pub use Rattle.num_integer.proofs.ForCallers.{Divides_difference, answers_as, coefficient_zero, int_pow_zero, least_is_only, linear, none_above, pascal, sizes, small_multiple_is_zero}
pub use Rattle.num_integer.proofs.Laws.{coefficient_mirror, quotient_is_only, remainder_is_only, root_is_only}
pub use Rattle.num_integer.specs.Checked.{AnswersWhere}
pub use Rattle.num_integer.specs.Coefficient.{coefficient}
pub use Rattle.num_integer.specs.Division.{IsRemainder, IsTruncated}
pub use Rattle.num_integer.specs.Divisors.{Divides, IsLeastCommonMultiple}
pub use Rattle.num_integer.specs.Least.{IsLeastFrom}
pub use Rattle.num_integer.specs.Range.{EachFits}
pub use Rattle.modular.proofs.ForCallers.{congruent_refl}
pub use Rattle.modular.proofs.Laws.{residue_class_is_only}
pub use Rattle.modular.specs.CommonSolutions.{MatchCommonSolution}
pub use Rattle.modular.specs.declared.congruent_numbers.Congruence.{Congruence}
pub use Rattle.modular.specs.Congruences.{IsResidueClass, SolvesBothCongruences, SolvesEach}
pub use Rattle.modular.specs.declared.common_solutions.CommonSolution.{CommonSolution}
pub use Rattle.modular.specs.declared.common_solutions.CommonSolution.TheVariants.{At, Beyond, Never}
pub use Rattle.calendar.proofs.DateOrder.{year_day_range}
pub use Rattle.calendar.proofs.ForCallers.{in_its_year, month_length_range, same_month, weeks_apart}
pub use Rattle.calendar.proofs.Laws.{date_of_parts_is_only, iso_day_exists, iso_day_is_only, iso_number_is_only, text_is_only, weeks_of_a_year}
pub use Rattle.calendar.specs.Dates.{HasParts, IsMonthsBetween, IsYearsBetween, number_of}
pub use Rattle.calendar.specs.IsoWeeks.{HasIsoWeek, HasIsoWeeks, IsDayOfIsoWeek, IsInIsoWeek}
pub use Rattle.calendar.specs.Text.{padded, text_of, with_number}
pub use Rattle.calendar.specs.Weekday.{iso_number}
pub use Rattle.calendar.specs.Years.{HasDay}
pub use Rattle.calendar.specs.declared.date.Date.{Date}
pub use Rattle.calendar.specs.declared.weekday.Weekday.{Weekday}
pub use Rattle.ratio64.proofs.DecimalTexts.{ten_grows, ten_up}
pub use Rattle.ratio64.proofs.Laws.{answer_is_only, rounded_even_is_only}
pub use Rattle.ratio64.proofs.NearestNumbers.{quotient_size, rounded_even_division}
pub use Rattle.ratio64.proofs.WideSums.{part_size}
pub use Rattle.ratio64.specs.Ratio.{den_of, num_of}
pub use Rattle.ratio64.specs.Rounding.{IsRoundedEven}
pub use Rattle.ratio64.specs.declared.error.RatioError.{RatioError}
pub use Rattle.ratio64.specs.declared.fraction.Ratio.{Ratio}
pub use Rattle.cellarcove_c.specs.Answers.{Answers, Refuses}
pub use Rattle.cellarcove_c.specs.Congruences.{HavePositiveModuli, IsBeyond, IsClassOfBoth, IsNever, IsNextOfSeveral, IsReasonOfCongruences, IsReasonOfSeveral}
pub use Rattle.cellarcove_c.specs.DateTexts.{HasText, ReadsDate}
pub use Rattle.cellarcove_c.specs.Dates.{IsDayBeyond}
pub use Rattle.cellarcove_c.specs.Decimals.{HasDigits, IsInDigits}
pub use Rattle.cellarcove_c.specs.Statuses.{StatusIs, StatusIsOneOf, answer_of, bad_modulus, common_solution_of, no_solution, not_fitting, outside}
pub use Rattle.cellarcove_c.specs.declared.fractions.FractionAnswer.{FractionAnswer}
