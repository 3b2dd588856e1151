-- The names of the libraries and of the specs that the proofs cite, passed on from one place, and sets of lemmas.
pub use Rattle.applied.specs.Hashes.{weighted_sum}
pub use Rattle.applied.specs.Laws.{ChoiceOfRankIsOnly, FallingByCoefficient, FallingFormula, GcdOfFitsExactly, LcmOfIsFirstCommonMultiple, LogarithmIsOnly, RankIsBelow, ReducedPairIsOnly, SharesByRemainderAreOnly}
pub use Rattle.applied.specs.Lists.{GcdOfFits, IsGreatestCommonDivisorOf, IsLeastCommonMultipleOf}
pub use Rattle.applied.specs.Paging.{IsEvenCut, IsPlace, IsRangeOfPage, IsRangeOfPart, cut_at}
pub use Rattle.applied.specs.Ranking.{IsChoice}
pub use Rattle.applied.specs.Rounding.{AnswersQuotient}
pub use Rattle.applied.specs.declared.schedules.Schedule.{Schedule}
pub use Rattle.applied.specs.Schedules.{HaveBegun, IsCountOfTimes, IsLeastTime, IsMeeting, IsMeetingOfEach, IsTimeTo}
pub use Rattle.applied.specs.Shares.{AreShares, AreSharesByRemainder, AreSignedShares, AreSignedSharesByRemainder, IsNearShare, RoundsShare, count_from, remainder_of, rounded_down, signed_sum}
pub use Rattle.modular.proofs.ForCallers.{congruent_refl, congruent_equal}
pub use Rattle.modular.specs.Congruences.{AreCongruent, IsCongruentUpTo, IsCountOfCongruent, IsResidue, SolvesBothCongruences, SolvesEachItem}
pub use Rattle.modular.specs.Counts.{AreAllFrom}
pub use Rattle.modular.specs.declared.common_solutions.CommonSolution.{CommonSolution}
pub use Rattle.modular.specs.declared.common_solutions.CommonSolution.TheVariants.{At, Beyond, Never}
pub use Rattle.num_integer.proofs.ForCallers.{Divides_antisym, Divides_difference, Divides_trans, answer_only, answers_as, answers_only, ceiled_by_range, ceiled_quotient_least, coefficient_zero, coefficient_grows, comm, divisor_at_most, expand, factorial_pos, fits_below, floored_by_range, floored_range, from_test, gcd_swap, gcd_zero, least_is_only, least_multiple_beyond, multiples_apart, next_multiple_least, none_above, only_ceiled, only_gcd, only_pair_by_range, other_quotient_fits, part_fits, pascal, positive_quotient_fits, product_at_most, product_from_zero, some_in_domain, square_root_of_square, truncated_is, within_fits, zero_divides, zero_or_not}
use Rattle.num_integer.proofs.ForCallers.{linear as linear_alone, products as products_alone, sizes as sizes_alone}
pub use Rattle.num_integer.proofs.Laws.{division_exists, factorial_formula, gcd_exists, lcm_exists}
pub use Rattle.num_integer.specs.Checked.{AnswersWhere, FitsWith}
pub use Rattle.num_integer.specs.Coefficient.{coefficient}
pub use Rattle.num_integer.specs.Division.{IsFloored, IsQuotient}
pub use Rattle.num_integer.specs.Divisors.{Divides, IsGreatestCommonDivisor, IsLeastCommonMultiple}
pub use Rattle.num_integer.specs.Least.{IsLeastFrom}
pub use Rattle.num_integer.specs.Only.{IsOnly}
pub use Rattle.num_integer.specs.Range.{EachFits, IsRange}
pub use Rattle.std.proofs.Common.{◌*ℤ◌, ◌*◌, ◌++◌, ◌+ℤ◌, ◌+◌, ◌-ℤ◌, ◌-◌, ◌/◌, ◌<ℤ◌, ◌<◌, ◌^◌, ◌↔◌, ◌∙◌, ◌∷◌, ◌≡◌, ◌≢◌, ◌≤ℤ◌, ◌≤◌, ◌⊎◌, All, Bool, EachIndex, FitsSigned, IsSome, IsSortedByKey, Less, List, MatchOption, None, Option, Some, [], add-one, ap, append_assoc, arith, cond, div-lt_iff_lt-mul, get_or, inl, inr, int_cmp, int_div, le-div_iff_mul-le, le_of_mul-le-mul_right, le_refl, leb, length, map, mul-le-mul_left, neg_ℤ, negsuc, not, one-add, pos, pow-suc, pow_mono, refl, rules, set, slice_index, slice_index_or, slice_set, subst, suc, sum, sum_by, sym, take, take-suc, unsigned_abs, zero, ℕ, ℤ, lt_of_not-le}
pub use Rattle.std.proofs.Math.Nat.{le_of_suc-le-suc, div-div-eq-div-mul, eq_of_mul-eq-mul_left, one-le-pow, pow-le-pow_left, pow-le-pow_right, pow-succ'}
pub use Rattle.std.proofs.lemmas.Bool.{false≢true, cases_lt, iff_false, le-leb, lt-leb}
pub use Rattle.std.proofs.lemmas.Int.{by_lt_z, clamps, to_z-of_z}
use Rattle.std.proofs.lemmas.Int.{ints as ints_alone}
pub use Rattle.std.proofs.lemmas.List.{append-nil, ext_get_or, get_or-map, get_or-set_other, get_or-set_same, get_or_default, get_or_past, get_or_read, get_or_read_under, length-map, length-set, length_push, map-set, map_more, take-map, take-set-le, take_all, take_at, take_more_set}
pub use Rattle.std.proofs.lemmas.List.Elements.{All-from_get_or, All-head, All-map, All-nil, All-pop, All-push, All-tail, All-take, All-weaker, All-cons}
pub use Rattle.std.proofs.lemmas.List.Sums.{count_by_more_no, count_by_more_yes, sum_by-cons, sum_by-take-le, sum_by_more, sum_by_push}
pub use Rattle.std.proofs.lemmas.Nat.{div_below, le-div, mul-le}
pub use Rattle.std.specs.Int.{int_pow, w64, FitsUnsignedBits}
pub use Rattle.std.specs.List.{AllWithin, HoldsAt, count_by, enumerate_from}

-- for `omega` and `grind`: sets of the libraries, each with `arith`
pub ruleset ints = (arith, ints_alone)

pub ruleset linear = (arith, linear_alone)

pub ruleset sizes = (arith, sizes_alone)

pub ruleset products = (arith, products_alone)
