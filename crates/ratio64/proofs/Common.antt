-- The names of the libraries and of the specs that the proofs cite, passed on from one place, and sets of lemmas.
pub use Rattle.std.proofs.Common.{Bor, ap, append_assoc, arith, get_or, inl, inr, le-mul_of_pos_right, le_of_mul-le-mul_right, le_refl, min, mul-le-mul_left, mul-pos, of_z, refl, rules, subst, sym, to_z, w32, ◌∙◌}
pub use Rattle.std.proofs.Math.Nat.{div-div-eq-div-mul, div-le_self, eq_of_mul-eq-mul_left, le_of_mul-le-mul_left, mod-add-div, mul-le-mul, one-le-pow, pow-le-pow_right, pow-succ'}
pub use Rattle.std.proofs.lemmas.Bool.{cases_Bool, cases_lt, iff_false}
pub use Rattle.std.proofs.lemmas.Fmt.{decimal_digit, decimal_is_IsNumeral, decimal_is_IsNumeral_wide, decimal_step}
pub use Rattle.std.proofs.lemmas.Int.{by_lt_z, fits_signed_from_abs, to_z-of_z, to_z_pos, unsigned_abs-mul}
use Rattle.std.proofs.lemmas.Int.{ints as ints_alone}
pub use Rattle.std.proofs.lemmas.List.{append-nil, get_or_at, length-append, replicate_more, get_or_append_left, nil_from_length, take_at, drop_at}
pub use Rattle.std.proofs.lemmas.Nat.{le-div, mul-lt}
pub use Rattle.std.proofs.lemmas.Str.Pattern.{IsSplitOnceResult, split_after, split_parts}
pub use Rattle.std.specs.Char.{digit_value}
pub use Rattle.std.specs.Cmp.{int_cmp_is, int_ranked}
pub use Rattle.std.specs.Fmt.{WritesInCalls, decimal, sign_text, signed_decimal}
pub use Rattle.std.specs.Int.{Width, int_pow, is_negative, w128, w64}
pub use Rattle.std.specs.Prelude.{Err, FitsSigned, IfErr, IfOk, IsOk, List, MatchOption, None, Ok, OnOk, Option, Result, Some, [], codes, false, int_div, length, neg_ℤ, negsuc, pos, replicate, suc, true, unsigned_abs, unwrap_or, zero, ℕ, ℤ, ◌%◌, ◌*ℤ◌, ◌*◌, ◌++◌, ◌+ℤ◌, ◌+◌, ◌-ℤ◌, ◌-◌, ◌/◌, ◌<ℤ◌, ◌<◌, ◌==◌, ◌^◌, ◌↔◌, ◌∷◌, ◌≡◌, ◌≢◌, ◌≤ℤ◌, ◌≤◌, ◌⊎◌, drop, take}
pub use Rattle.std.specs.Str.Parse.{AllDigits, IsNumeral, digits_value, starts_with_minus}
pub use Rattle.std.specs.declared.cmp.Ordering.TheVariants.{Equal, Greater, Less}
pub use Rattle.num_integer.proofs.ForCallers.{Divides_refl, Divides_sum, Divides_trans, LiesWithin, cancel, comm, coprime_divides, divisor_at_most, expand, factor_positive, floored_range, from_not_less, from_test, gcd_swap, int_pow_suc, int_pow_zero, mul-one, multiples_apart, neg_mul, one_divides, power_of_zero, power_size, product_from_zero, rest_is}
use Rattle.num_integer.proofs.ForCallers.{linear as linear_alone, products as products_alone, sizes as sizes_alone}
pub use Rattle.num_integer.proofs.Laws.{division_is_only, gcd_exists}
pub use Rattle.num_integer.specs.Checked.{AnswersWhere}
pub use Rattle.num_integer.specs.Division.{IsCeiled, IsDivision, IsFloored, IsQuotient}
pub use Rattle.num_integer.specs.Divisors.{Divides, IsGreatestCommonDivisor}
pub use Rattle.num_integer.specs.Range.{EachFits}
pub use Rattle.ratio64.specs.Decimal.{SpellsDecimal, decimal_text, places_of, units_of}
unfoldable pub use Rattle.ratio64.specs.Decimal.{last_digits}
pub use Rattle.ratio64.specs.Fraction.{AreEqual, IsExact, IsFraction, IsOutsideI64, IsReduced, fraction_cmp}
pub use Rattle.ratio64.specs.IntegerWords.{unsigned_part, whole_of}
pub use Rattle.ratio64.specs.Laws.{AnswerIsOnly, DecimalIsSpelled, RatioOfPartsIsOnly, ReadingIsOnly, RoundedEvenIsOnly, RoundedIsOnly, SpelledDecimalIsOnly, TextIsReadBack}
pub use Rattle.ratio64.specs.Limiting.{IsNearestWithin, gap, AreNearestParts}
pub use Rattle.ratio64.specs.Neighbours.{AreNeighbours, IsCloser, IsNearer}
pub use Rattle.ratio64.specs.Ratio.{AnswersFraction, den_of, num_of, text_of}
pub use Rattle.ratio64.specs.ReducedPairs.{AreEqual_sym, IsReduced_prop, denominator_divides, equal_where_same, positive_is_nonzero, same_pair}
pub use Rattle.ratio64.specs.Rounding.{AnswersInParts, IsRounded, IsRoundedEven}
pub use Rattle.ratio64.specs.declared.error.RatioError.{RatioError}
pub use Rattle.ratio64.specs.declared.error.RatioError.TheVariants.{NotFitting, ZeroDenominator}
pub use Rattle.ratio64.specs.declared.fraction.Ratio.{Ratio}
pub use Rattle.ratio64.specs.declared.neighbours.Neighbour.{Neighbour}
pub use mathlib.Core.HLevel.{is_prop→PathP}

-- for `omega` and `grind`: sets of the libraries, each with `arith`
pub ruleset ints = (arith, ints_alone)

pub ruleset linear = (arith, linear_alone)

pub ruleset sizes = (arith, sizes_alone)

pub ruleset products = (arith, products_alone)
