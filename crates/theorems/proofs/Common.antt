-- The names of the libraries and of the specs that the proofs cite, passed on from one place. Declares nothing.
pub use Rattle.std.specs.Prelude.{FitsSigned, IfSome, IsTrue, MatchOption, None, Option, Some, if◌then◌else◌, pos, ℕ, ℤ, ◌+ℤ◌, ◌-ℤ◌, ◌↔◌, ◌≡◌}
pub use Rattle.std.proofs.Common.{ap, arith, inr, refl, rules, sym, ◌∙◌}
pub use Rattle.std.proofs.lemmas.Bool.Decides.{nat_tests}
pub use Rattle.std.proofs.lemmas.Int.{ints, to_z-of_z}
pub use Rattle.std.specs.Int.{w64}
pub use Rattle.std.specs.Option.{SomeIff}
pub use Rattle.calendar.proofs.Laws.{date_is_only, easter_is_only, leap_years_by_divisors, lengths_of_years, years_follow}
pub use Rattle.calendar.specs.Dates.{number_of}
pub use Rattle.calendar.specs.LeapYears.{is_leap_year}
pub use Rattle.calendar.specs.Years.{day_number, days_in_year}
pub use Rattle.calendar.specs.declared.date.Date.{Date}
pub use Rattle.modular.proofs.Congruences.{congruent_refl, residue_of_congruent}
pub use Rattle.modular.proofs.Laws.{residue_class_is_only, residue_is_only}
pub use Rattle.modular.specs.Congruences.{IsResidue, IsResidueClass}
pub use Rattle.num_integer.proofs.ForCallers.{linear}
pub use Rattle.num_integer.proofs.Laws.{no_integer_is_nearer}
pub use Rattle.num_integer.specs.Only.{IsOnly}
pub use Rattle.ratio64.proofs.ForCallers.{equal_fractions_answered_alike, err_is_outside, only_exact_result, quotient_is_exact, read, whole_is_exact, whole_is_multiple, zero_is_over_one}
pub use Rattle.ratio64.proofs.Laws.{decimal_is_spelled, exact_result_exists, exact_result_is_only, nearest_is_only, order_is_total, order_over_one_denominator, rounded_even_is_only, spelled_decimal_is_only}
pub use Rattle.ratio64.specs.Decimal.{SpellsDecimal, decimal_text, places_of, units_of}
pub use Rattle.ratio64.specs.Fraction.{IsExact}
pub use Rattle.ratio64.specs.Ratio.{den_of, num_of}
pub use Rattle.ratio64.specs.declared.decimal.Decimal.{Decimal}
