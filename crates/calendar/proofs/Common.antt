-- The names of the libraries and of the specs that the proofs cite, passed on from one place, and sets of lemmas.
pub use Rattle.std.proofs.Common.{add-one, ap, append_assoc, arith, inl, inr, int_rem, le_refl, of_z, refl, rules, subst, sym, to_z, ◌∙◌}
pub use Rattle.std.proofs.Props.{props}
pub use Rattle.std.proofs.lemmas.Bool.{cases_lt, iff_false}
pub use Rattle.std.proofs.lemmas.Bool.Decides.{nat_tests}
pub use Rattle.std.proofs.lemmas.Int.{by_lt_z, clamps, to_z-of_z, to_z_pos}
use Rattle.std.proofs.lemmas.Int.{ints as ints_alone}
pub use Rattle.std.proofs.lemmas.List.{append-nil, get_or-drop, length-append, length-replicate, length_push, take-append-drop, take-take}
pub use Rattle.std.proofs.lemmas.List.Elements.{All-get_or}
pub use Rattle.std.specs.Fmt.{WritesInCalls, decimal}
pub use Rattle.std.specs.Int.{int_div_euclid, int_max, int_rem_euclid, w128, w64}
pub use Rattle.std.specs.Option.{SomeIff}
pub use Rattle.std.specs.Prelude.{Bool, Err, FitsSigned, IfSome, IsOk, IsSome, IsTrue, List, MatchOption, None, Ok, OnOk, Option, Result, Some, [], cond, drop, false, get_or, length, min, neg_ℤ, negsuc, not, pos, replicate, slice_index, suc, sum, take, true, unsigned_abs, zero, ℕ, ℤ, ◌%◌, ◌*ℤ◌, ◌*◌, ◌++◌, ◌+ℤ◌, ◌+◌, ◌-ℤ◌, ◌-◌, ◌/◌, ◌<ℤ◌, ◌<◌, ◌^◌, ◌↔◌, ◌∷◌, ◌≡◌, ◌≢◌, ◌≤ℤ◌, ◌≤◌, ◌⊎◌}
pub use Rattle.std.specs.Str.Parse.{AllDigits, ParsesUnsigned, digits_value, digits_value_after}
pub use Rattle.integer_core.proofs.FlooredByPositive.{floored_by_range, floored_remainder_range}
pub use Rattle.integer_core.proofs.NaturalDivision.{divides_by_magnitude, floored_quotient_range}
pub use Rattle.integer_core.proofs.Quotients.{floored_exists, only_floored}
pub use Rattle.integer_core.proofs.Whole.{from_not_less}
use Rattle.integer_core.proofs.Whole.{linear as linear_alone, products as products_alone, sizes as sizes_alone}
pub use Rattle.integer_core.proofs.WrittenTexts.{same_written, then_written}
pub use Rattle.integer_core.specs.Division.{IsFloored, IsQuotient, IsRemainder}
pub use Rattle.calendar.specs.Dates.{HasFifthWeekday, HasParts, IsEarlier, IsLastOfMonth, IsLastWeekdayOfMonth, IsMonthsAfter, IsMonthsBetween, IsNextLastWeekday, IsNthWeekday, IsYearsBetween, number_of}
pub use Rattle.calendar.specs.IsoWeeks.{HasIsoWeek, HasIsoWeeks, IsDayOfIsoWeek, IsInIsoWeek, IsThursdayOfWeek, IsWeeksAfter}
pub use Rattle.calendar.specs.Laws.{LastWeekdayOfMonthIsOnly, NextLastWeekdayExists, NextLastWeekdayIsOnly, NthWeekdayIsOnly, TextIsOnly, YearsFollow}
pub use Rattle.calendar.specs.Months.{IsDate, days_before_month, days_in_month, month_lengths, month_number, months_of}
pub use Rattle.calendar.specs.Text.{IsShortest, padded, text_of, week_text, with_number, year_text}
pub use Rattle.calendar.specs.Weekday.{weekday_number}
pub use Rattle.calendar.specs.Weeks.{HasWeekday, IsFirstWeekday, IsLastWeekday, IsWeekdayAfter}
pub use Rattle.calendar.specs.Years.{HasDay, day_number, days_in_year, first_day}
pub use Rattle.calendar.specs.declared.date.Date.{Date}
pub use Rattle.calendar.specs.declared.iso_weeks.IsoWeek.{IsoWeek}
pub use Rattle.calendar.specs.declared.weekday.Weekday.{Weekday}
pub use Rattle.calendar.specs.declared.weekday.Weekday.TheVariants.{Monday, Sunday, Thursday}
pub use mathlib.Core.HLevel.{is_prop→PathP}

-- for `omega` and `grind`: sets of the libraries, each with `arith`
pub ruleset ints = (arith, ints_alone)

pub ruleset linear = (arith, linear_alone)

pub ruleset sizes = (arith, sizes_alone)

pub ruleset products = (arith, products_alone)
