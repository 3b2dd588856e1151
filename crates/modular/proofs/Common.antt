-- The names of the libraries and of the specs that the proofs cite, passed on from one place. Declares nothing.
pub use Rattle.std.specs.Prelude.{◌%◌, ◌*ℤ◌, ◌*◌, ◌+ℤ◌, ◌+◌, ◌-ℤ◌, ◌-◌, ◌/◌, ◌<ℤ◌, ◌<◌, ◌^◌, ◌↔◌, ◌∷◌, ◌≡◌, ◌≢◌, ◌≤ℤ◌, ◌≤◌, ◌⊎◌, Bool, IfSome, IsTrue, List, MatchOption, None, Option, Some, [], false, int_div, length, neg_ℤ, negsuc, not, pos, suc, unsigned_abs, zero, ℕ, ℤ}
pub use Rattle.std.proofs.Common.{◌∙◌, add-one, ap, arith, get_or, inl, inr, refl, subst, sym, take}
pub use Rattle.std.proofs.Math.Bool.{beq}
pub use Rattle.std.proofs.Math.Nat.{lt_of_not-le, mod-eq_of_lt, mul-le-mul_left, mul-le-mul_right, mul_comm, one-le-pow, pow-le-pow_right, pow-succ', two-pow-succ}
pub use Rattle.std.proofs.lemmas.Bool.{cases_lt, false≢true, iff_false}
pub use Rattle.std.proofs.lemmas.Int.{by_lt_z, ints}
pub use Rattle.std.proofs.lemmas.List.{take_all}
pub use Rattle.std.proofs.lemmas.List.Elements.{All-cons, All-get_or, All-head, All-more, All-nil, All-rest, All-tail}
pub use Rattle.std.proofs.lemmas.Nat.{div-add-mod', div_below, leading_top, mod_below, pow-add, pow_pos, same_from_place, shl_below}
pub use Rattle.std.proofs.lemmas.Nat.Bits.{bit_at-trailing_zeros}
pub use Rattle.std.specs.Int.{int_pow, trailing_zeros, w64}
pub use Rattle.std.specs.Int.Count.{count_leading_zeros}
pub use Rattle.num_integer.proofs.ForCallers.{Divides_antisym, Divides_cancel, Divides_difference, Divides_refl, Divides_sum, Divides_times, Divides_trans, Divides_zero, LiesWithin, cancel, comm, coprime_divides, divides_multiple, exact_quotient, expand, factor_positive, floored_range, floored_remainder_range, from_not_less, gcd_nonzero, gcd_positive, gcd_with_positive_fits, greatest_is_only, int_pow_add, int_pow_suc, int_pow_zero, lcm_positive, least_is_only, linear, magnitude_divides, mul_neg, mul-one, multiples_apart, one_divides, only_gcd, operator_quotient_fits, positive_quotient_fits, power_of_square, product_from_zero, products, rest_is, shift_back, signed_is, sizes, small_multiple_is_zero, within_fits}
pub use Rattle.num_integer.proofs.Common.{All, Divides, EachFits, IsGreatestCommonDivisor, IsLeastCommonMultiple, IsOnly, IsRange, gcd-remainder, lcm-product, signed, signed-not}
pub use Rattle.num_integer.proofs.FlooredProducts.{signed_product}
pub use Rattle.num_integer.proofs.Laws.{bezout_answer_exists, division_exists, gcd_exists, gcd_times_lcm, lcm_exists}
pub use Rattle.num_integer.specs.Checked.{AnswersWhere, FitsWith}
pub use Rattle.num_integer.specs.Division.{IsFloored, IsRemainder, IsTruncated}
pub use Rattle.num_integer.specs.Least.{IsLeastFrom}
pub use Rattle.modular.specs.Agreement.{Agree, AgreeInPairs, AgreesWithEach}
pub use Rattle.modular.specs.Below.{IsNaturalRemainder, LiesBelow}
pub use Rattle.modular.specs.CommonSolutions.{MatchCommonSolution}
pub use Rattle.modular.specs.Congruences.{AreCongruent, IsCountOfCongruent, IsInverse, IsNextCommonSolution, IsNextCongruent, IsPreviousCongruent, IsQuotientModulo, IsReducedModulus, IsResidue, IsResidueClass, IsSystem, Solves, SolvesBothCongruences, SolvesEach, SolvesEachItem}
pub use Rattle.modular.specs.Counts.{AreAllFrom, IsCountFrom}
pub use Rattle.modular.specs.Laws.{CountOfCongruentIsOnly, InverseIsOnly, NextCommonSolutionIsOnly, NextCongruentIsOnly, NextSolutionOfEachIsOnly, PreviousCongruentIsOnly, QuotientIsOnly, ReducedModulusIsOnly, ResidueClassIsOnly, ResidueIsOnly}
pub use Rattle.modular.specs.MontgomeryForms.{joined, represented}
pub use Rattle.modular.specs.Times.{IsNextInClass, IsTimesToReach}
pub use Rattle.modular.specs.declared.common_solutions.CommonSolution.{CommonSolution}
pub use Rattle.modular.specs.declared.common_solutions.CommonSolution.TheVariants.{At, Beyond, Never}
