-- The names of the libraries that the proofs cite, and the lemmas that most of them cite, passed on from one place. Declares nothing.
pub use Rattle.integer_core.proofs.Common.{Bool, Divides, EachFits, FitsSigned, FitsUnsignedBits, IsDivision, IsFloored, IsGreatestCommonDivisor, IsLeastCommonMultiple, IsMultiple, IsOnly, IsQuotient, IsRange, IsRemainder, IsTrue, List, None, Option, Some, Width, [], abs_is, add-one, ap, arith, cases_eq, cases_lt, comm, drop, eq_of_mul-eq-mul_left, expand, false, from_not_less, get_or, iff_false, inl, inr, int_div, int_pow, int_rem, ints, le-leb, le-mul_of_pos_right, le_of_mul-le-mul_left, le_refl, le_trans, leb-true, left_comm, length, linear, map, min, mul-le-mul_right, mul-pos, nat_le, nat_lt, natural, neg_ℤ, negsuc, not, pos, pow-lt-pow_left, pow-succ', products, refl, reverse, rules, set, sizes, subst, suc, sum, sym, true, unsigned_abs, unsigned_abs-mul, zero, zero-add, ℕ, ℤ, ◌%◌, ◌*ℤ◌, ◌*◌, ◌+ℤ◌, ◌+◌, ◌-ℤ◌, ◌-◌, ◌/◌, ◌<ℤ◌, ◌<◌, ◌^◌, ◌↔◌, ◌∙◌, ◌∷◌, ◌≡◌, ◌≢◌, ◌≤ℤ◌, ◌≤◌, ◌⊎◌}
pub use Rattle.integer_core.proofs.CommonDivisors.{gcd_nonzero, gcd_positive, gcd-remainder, gcd_swap, gcd_times, gcd_zero, lcm-computed, lcm-product, lcm_zero, lcm_exists, only_lcm}
pub use Rattle.integer_core.proofs.Divisibility.{Divides_cancel, Divides_trans, cancel, divisor_size, exact_quotient, zero_divides}
pub use Rattle.integer_core.proofs.Quotients.{floored_remainder_fits, gap_fits, next_above, next_exact, only_floored, other_quotient_fits, previous, truncated_is, zero_or_not}
pub use Rattle.integer_core.proofs.Ranges.{within_fits}
pub use Rattle.num_integer.specs.Coefficient.{coefficient, coefficient_of}
pub use Rattle.num_integer.specs.Parts.{IsWithin, signed}
pub use Rattle.std.proofs.Math.Nat.{mul-zero, zero-div}
pub use Rattle.std.proofs.lemmas.Bool.{ltb-true}
pub use Rattle.std.proofs.lemmas.List.{at_drop_all, at_drop_more, drop_all, get_or-reverse, get_or-set_other, get_or-set_same, length-reverse, length-set}
pub use Rattle.std.proofs.lemmas.List.Elements.{All-drop, All-from_all_within, All-nil, AllWithin-more, AllWithin-upto, at_read}
pub use Rattle.std.specs.List.{All, AllWithin, swap}
pub use Rattle.num_integer.proofs.FittingAnswers.{by_minus_one, by_other, ceiled, each_fits, each_kind, few_bits, fits_below, fits_up, floored, from_test, gcd_domain, gcd_of_nonzero, gcd_of_zero, lcm_at_most, multiple_domain, no_lcm, signed-not, signed_is, test_inside, test_of_both, test_up}
pub use Rattle.integer_core.proofs.OrderedProducts.{factor_positive, multiples_apart, product_at_most, product_from_zero}
