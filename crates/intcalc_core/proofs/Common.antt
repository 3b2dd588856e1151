-- The names of the libraries and of the specs that the proofs cite, passed on from one place. Declares nothing.
pub use Rattle.std.specs.Prelude.{Bool, Err, FitsSigned, IsErrAnd, IsTrue, List, MatchResult, None, Ok, Option, Result, Some, false, map, pos, true, unsigned_abs, ℕ, ℤ, ◌*ℤ◌, ◌+ℤ◌, ◌<◌, ◌^◌, ◌↔◌, ◌∷◌, ◌≡◌, ◌≢◌, ◌⊎◌}
pub use Rattle.std.proofs.Common.{Bor, [], ap, append-nil, append_assoc, arith, drop, get_or, inl, inr, length, length-append, of_z, refl, rules, set, suc, sym, take, to_z, zero, ◌%◌, ◌++◌, ◌+◌, ◌-◌, ◌∙◌, ◌≤◌}
pub use Rattle.std.proofs.lemmas.Bool.{true≢false}
pub use Rattle.std.proofs.lemmas.Fmt.{decimal_by_steps_wide, decimal_digit, decimal_step_wide, length-decimal-le_wide}
pub use Rattle.std.proofs.lemmas.Grind.{common_steps}
pub use Rattle.std.proofs.lemmas.Int.{fits_signed_from_abs, ints, to_z-of_z}
pub use Rattle.std.proofs.lemmas.List.{drop-set, drop_all, get_or-map, length-map}
pub use Rattle.std.proofs.lemmas.List.FromFn.{fill_by_all}
pub use Rattle.std.proofs.lemmas.Result.{err_from_is_err_and}
pub use Rattle.std.specs.Fmt.{decimal}
pub use Rattle.std.specs.Int.{w128, w64}
pub use Rattle.std.specs.Io.KnownBytes.{Appends}
pub use Rattle.std.specs.List.{range_with_len}
pub use Rattle.num_integer.proofs.Laws.{average_ceil_is_only, average_floor_is_only, bezout_answer_is_only, division_is_only, gcd_is_only, lcm_is_only, multiple_is_only, quotient_is_only, remainder_is_only, root_is_only}
pub use Rattle.num_integer.specs.Averages.{IsAverageCeil, IsAverageFloor}
pub use Rattle.num_integer.specs.Bezout.{IsBezoutAnswer}
pub use Rattle.num_integer.specs.Coefficient.{coefficient_of}
pub use Rattle.num_integer.specs.Division.{IsCeiled, IsFloored, IsMultiple, IsQuotient, IsRemainder, IsTruncated}
pub use Rattle.num_integer.specs.Divisors.{IsGreatestCommonDivisor, IsLeastCommonMultiple}
pub use Rattle.num_integer.specs.Range.{IsRange}
pub use Rattle.num_integer.specs.RootOf.{IsRoot, IsWithin64Bits}
pub use Rattle.num_traits.specs.Ints.{signed-wrap}
pub use Rattle.ratio64.proofs.ForCallers.{err_is_outside, nonzero_product, ok_is_inside, product_of_exact_results, sum_of_exact_results}
pub use Rattle.ratio64.proofs.Laws.{exact_result_is_only}
pub use Rattle.ratio64.specs.Fraction.{IsExact, IsFraction, IsOutsideI64}
pub use Rattle.ratio64.specs.Ratio.{AnswersFraction, den_of, num_of}
pub use Rattle.ratio64.specs.declared.error.RatioError.{RatioError}
pub use Rattle.ratio64.specs.declared.fraction.Ratio.{Ratio}
pub use Rattle.intcalc_core.specs.Fractions.{IsRatioOf}
pub use Rattle.intcalc_core.specs.Line.{IsLine, IsReply, status_of, text_of}
pub use Rattle.intcalc_core.specs.Number.{spelled_number}
pub use Rattle.intcalc_core.specs.Operands.{operands_of}
pub use Rattle.intcalc_core.specs.Outcome.{AnswersExact, AnswersOne, AnswersThree, AnswersTwo, AnswersWhether, AreGcdAndLcm, FitsKind, NeedsFractions, NeedsParts, Outcome, OutcomeIn, PartsFit}
unfoldable pub use Rattle.intcalc_core.specs.Outcome.{OutcomeOfFitting}
pub use Rattle.intcalc_core.specs.Words.{AskFor, IsRequest, word_of_call, word_of_kind}
pub use Rattle.intcalc_core.specs.declared.calls.Answer.{Answer}
pub use Rattle.intcalc_core.specs.declared.calls.Answer.TheVariants.{Three, Two}
pub use Rattle.intcalc_core.specs.declared.calls.Call.{Call}
pub use Rattle.intcalc_core.specs.declared.calls.Call.TheVariants.{AverageCeil, AverageFloor, Binomial, Cbrt, DivCeil, DivFloor, DivModFloor, DivRem, ExtendedGcd, Gcd, GcdLcm, IsMultipleOf, Lcm, ModFloor, NextMultipleOf, NthRoot, PrevMultipleOf, RatioAdd, RatioMul, Sqrt}
pub use Rattle.intcalc_core.specs.declared.calls.Kind.{Kind}
pub use Rattle.intcalc_core.specs.declared.calls.Refusal.{Refusal}
pub use Rattle.intcalc_core.specs.declared.calls.Refusal.TheVariants.{NotFitting}
