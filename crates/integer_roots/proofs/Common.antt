-- The names of the libraries and of the specs that the proofs cite, passed on from one place. Declares nothing.
pub use Rattle.std.specs.Prelude.{◌%◌, ◌*ℤ◌, ◌*◌, ◌+ℤ◌, ◌+◌, ◌-ℤ◌, ◌-◌, ◌/◌, ◌<ℤ◌, ◌<◌, ◌^◌, ◌∷◌, ◌≡◌, ◌≢◌, ◌≤ℤ◌, ◌≤◌}
pub use Rattle.std.proofs.Common.{ap, arith, pow-add, pow_mono, pow_pos, rules, ◌∙◌}
pub use Rattle.std.proofs.lemmas.Grind.{div_ceil_times}
pub use Rattle.std.proofs.lemmas.Nat.Bits.{bit_at-lt, bit_at_and, bit_at_or, bit_at_xor}
pub use Rattle.std.specs.Int.{bit_at, int_shr}
pub use Rattle.std.specs.Int.Bits.{or_add_and, xor_add_and}
pub use Rattle.std.specs.Int.Count.{leading_of_zero}
pub use Rattle.integer_core.proofs.Common.{FitsUnsignedBits, IsOnly, IsRange, IsRun, List, Width, add-mul-div_right, add-one, and_le_l, bit_and, bit_or, bit_xor, by_lt_z, cases_lt, div-div-eq-div-mul, div-eq_of_lt, div-le_self, div-lt_iff_lt-mul, div-mul-le_self, div-one, div_below, inl, inr, ints, le-div, le-div_iff_mul-le, le_of_mul-le-mul_right, le_trans, linear, lt_of_le_of_lt, lt_of_not-le, mul-le-mul, mul-le-mul_left, mul-le-mul_right, mul-one, mul-pos, neg_ℤ, negsuc, one-le-pow, one-mul, one_shl, or_lt, pos, pow-le-pow_left, pow-le-pow_right, pow-suc, pow-succ', pow-zero, products, refl, sizes, subst, suc, sym, unsigned_abs, xor_lt, zero, ℕ, ℤ}
pub use Rattle.integer_core.proofs.OddParts.{width}
pub use Rattle.integer_core.proofs.Runs.{Reaches, only_iterations, reaches_first, reaches_instead, reaches_iteration, reaches_last}
pub use Rattle.integer_core.proofs.Whole.{is_not_less}
pub use Rattle.integer_core.specs.TwosComplement.{IsTwosComplement}
pub use Rattle.num_traits.specs.Ints.{unsigned-wrap_fits}
pub use Rattle.num_traits.specs.Laws.{bit_len, wrap_unsigned}
pub use Rattle.integer_roots.specs.Averages.{IsAverageCeil, IsAverageFloor}
pub use Rattle.integer_roots.specs.NewtonRuns.{IsReached, begins, falls, goes_over, guess_of, newton_step, rises}
pub use Rattle.integer_roots.specs.RootOf.{IsFloorRoot, IsRoot}
pub use Rattle.integer_roots.specs.SquareRuns.{AreSquareRootIterations, Falling, Guess, IsHighestBit, IsNewtonIteration, MakesNewtonRun, NewtonEnds, Rising, first_guess, square_step}
