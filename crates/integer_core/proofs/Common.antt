-- The names of the libraries that the proofs cite, passed on from one place. Declares nothing.
pub use Rattle.std.proofs.Common.{◌%◌, ◌*ℤ◌, ◌*◌, ◌+ℤ◌, ◌+◌, ◌-ℤ◌, ◌-◌, ◌/◌, ◌<ℤ◌, ◌<◌, ◌^◌, ◌∷◌, ◌↔◌, ◌≡◌, ◌≢◌, ◌≤ℤ◌, ◌≤◌, ◌⊎◌, ◌∙◌, Bool, FitsSigned, IsTrue, List, None, Option, Some, [], add-one, ap, arith, bit_and, bit_or, bit_xor, div-add-mod', div-le_self, div-lt_iff_lt-mul, div-mul-le_self, div-one, drop, false, get_or, inl, inr, int_div, int_rem, le-div_iff_mul-le, le-leb, le-mul_of_pos_right, le_of_mul-le-mul_right, le_refl, le_trans, leb-true, length, lt_of_le_of_lt, lt_of_mul-lt-mul_right, lt_of_not-le, map, max, min, mod-eq_of_lt, mul-div_cancel, mul-le-mul, mul-le-mul_left, mul-le-mul_right, mul-one, mul-pos, mul_assoc, mul_comm, nat_le, nat_lt, neg_ℤ, negsuc, not, one-mul, pos, pow-add, pow-suc, pow_mono, pow_pos, refl, reverse, rules, set, subst, suc, sum, sym, true, unsigned_abs, zero, zero-add, ℕ, ℤ}
pub use Rattle.integer_core.proofs.Whole.{assoc, comm, dist, dist_left, expand, from_not_less, is_less, left_comm, linear, natural, neg_mul, products, sizes}
pub use Rattle.integer_core.specs.Bezout.{AreEuclidIterations, EuclidEnds, FirstDividesSecond, HasPair, IsBezoutAnswer, IsEuclidIteration, IsSmallPair, NeedsBoth, Remainders, SecondDividesFirst, sign}
pub use Rattle.integer_core.specs.Division.{EachKind, HaveOppositeSigns, HaveSameSign, IsCeiled, IsDivision, IsFloored, IsMultiple, IsQuotient, IsRemainder, IsTruncated}
pub use Rattle.integer_core.specs.Divisors.{Divides, GcdFits, IsGreatestCommonDivisor, IsLeastCommonMultiple}
pub use Rattle.integer_core.specs.GcdRuns.{AreGcdIterations, AreWithinBits, GcdEnds, IsBitLength, IsCountedGcd, IsGcdIteration, IsOddGcd, IsOddPart, IsOrderedIteration, IsZeroOrLeast, MakesGcdRun, OddPair, exchanged}
pub use Rattle.integer_core.specs.Only.{IsOnly}
pub use Rattle.integer_core.specs.Range.{EachFits, IsRange}
pub use Rattle.integer_core.specs.Runs.{IsRun, RunHasIterations}
pub use Rattle.std.proofs.Math.IntN.{*ℤ-zero, +ℤ_idl, +ℤ_idr, zero-*ℤ}
pub use Rattle.std.proofs.Math.Nat.{add-mul-div_right, div-div-eq-div-mul, div-eq_of_lt, dvd-add_iff_right, dvd-mul_left, dvd-mul_right, dvd-mul_right_of_dvd, eq-one_of_dvd-one, eq_of_mul-eq-mul_left, le_of_mul-le-mul_left, mod-le, mul-div_cancel', mul-mod_left, mul-sub, one-dvd, one-le-pow, pow-le-pow_left, pow-le-pow_right, pow-lt-pow_left, pow-succ', pow-zero}
pub use Rattle.std.proofs.lemmas.Bool.{cases_eq, cases_lt, iff_false}
pub use Rattle.std.proofs.lemmas.Int.{by_lt_z, ints, quot-rem, rem_below, unsigned_abs-mul}
pub use Rattle.std.proofs.lemmas.Nat.{and_le_l, and_le_r, div_below, le-div, mul-le, mul-lt, one_shl, or_lt, xor_lt, xor_mod}
pub use Rattle.std.proofs.lemmas.Nat.Gcd.{IsGcd-from_sub, IsGcd-swap, dvd_antisymm, dvd_of_mod-eq-zero, dvd_refl, dvd_trans, le_of_dvd, mod-eq-zero_of_dvd}
pub use Rattle.std.specs.Int.{◌∣◌, FitsUnsignedBits, IsGcd, IsPowerOfTwo, Width, int_pow, trailing_zeros, w128, w64}
pub use borrow.Author.Differences.{abs_is}
