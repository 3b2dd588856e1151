-- A native type of a number of bits: the definition, and lemmas by which the signed and the unsigned types meet it.
use Rattle.std.specs.Prelude.{◌≡◌, ◌⊎◌, ◌↔◌, ◌^◌, ◌*◌, ◌≤◌, ◌<◌, ◌-◌, ◌≤ℤ◌, ℤ, ℕ, pos, negsuc, unsigned_abs, FitsSigned}
use Rattle.std.specs.Int.{Width, w8, w16, w32, w64, w128, FitsUnsignedBits, IsPowerOfTwo, cast_signed}
use Rattle.std.proofs.Common.{refl, arith, inl, inr, lit≤}
use Rattle.std.proofs.lemmas.Int.{ints}
use Rattle.num_traits.specs.Ints.{signed-bounds, unsigned-bounds}
use Rattle.num_traits.specs.Laws.{bit_len}
use Rattle.integer_core.specs.Range.{IsRange}
use Rattle.integer_core.specs.TwosComplement.{IsTwosComplement, doubled, signed_complement, unsigned_complement}
use mir.Val.{hbits}

-- A native type of width w has its numbers in two's complement, and the smallest is 0 or minus a power of two. The range
-- wide has its magnitudes, and twice its largest number if the smallest is negative.
-- Examples: i8 with the magnitudes of u64; u128 with those of u128; not i128 with those of u64.
pub record IsNative (w : Width) (number : ℕ → ℤ) (fits : ℤ → Type 0) (low high : ℤ) (wide : ℤ → Type 0) : Type 0 where
  pub range : IsRange fits low high
  pub magnitude : (z : ℤ) → fits z → wide (pos (unsigned_abs z))
  -- a type with negative numbers has half as many non-negative numbers as the type of its magnitudes
  pub twice : (pos 0 ≤ℤ low) ⊎ wide (pos (2 * unsigned_abs high))
  pub complement : IsTwosComplement w number
  -- its smallest number is 0 or minus a power of two
  pub least : (low ≡ pos 0) ⊎ IsPowerOfTwo (unsigned_abs low)

half_fits : (w : Width) → (2 ^ hbits w ≤ 2 ^ 127) × (2 ≤ 2 ^ hbits w)
half_fits w8 = (lit≤ tt, lit≤ tt)
half_fits w16 = (lit≤ tt, lit≤ tt)
half_fits w32 = (lit≤ tt, lit≤ tt)
half_fits w64 = (lit≤ tt, lit≤ tt)
half_fits w128 = (lit≤ tt, lit≤ tt)

-- a range whose largest number is n - 1
range_below : {fits : ℤ → Type 0} {low : ℤ} (n : ℕ) → ((z : ℤ) → fits z ↔ ((low ≤ℤ z) × (z ≤ℤ pos (n - 1)))) → 2 ≤ n → n ≤ 2 ^ 128
    → (low ≡ pos 0) ⊎ ((low ≡ negsuc (n - 1)) × (n ≤ 2 ^ 127)) → IsRange fits low (pos (n - 1))
range_below n between some most low_is = record {
  between = between;
  low_end = elim low_is [ inl none ↦ inl none | inr signed ↦ inr (inr (omega (arith, ints))) ];
  positive = omega (arith, ints);
  bounded = omega (arith, ints);
  bounded_below = elim low_is [ inl none ↦ inl (omega (arith, ints)) | inr signed ↦ inr (omega (arith, ints)) ];
}

-- a signed type, and an unsigned one of at least as many bits
pub signed_native : (w : Width) (k : ℕ) → 2 * 2 ^ hbits w ≤ 2 ^ k
    → IsNative w (cast_signed w) (λ z. FitsSigned w z) (negsuc (2 ^ hbits w - 1)) (pos (2 ^ hbits w - 1)) (FitsUnsignedBits k)
signed_native w k wide =
    let half = half_fits w in
    record {
      range = range_below (2 ^ hbits w) (signed-bounds w) half.1 (omega arith) (inr (refl, half.0));
      magnitude = λ z fits. omega (arith, ints);
      twice = inr (omega (arith, ints));
      complement = signed_complement w;
      least = inr (hbits w, omega arith);
    }

-- an unsigned type, and one of at least as many bits
pub unsigned_native : (w : Width) (k : ℕ) → 2 ^ bit_len w ≤ 2 ^ k
    → IsNative w (λ n. pos n) (FitsUnsignedBits (bit_len w)) (pos 0) (pos (2 ^ bit_len w - 1)) (FitsUnsignedBits k)
unsigned_native w k wide =
    let half = half_fits w in
    let all = doubled w in
    record {
      range = range_below (2 ^ bit_len w) (unsigned-bounds (bit_len w)) (omega arith) (omega arith) (inl refl);
      magnitude = λ z fits. grind (arith, ints);
      twice = inl (omega (arith, ints));
      complement = unsigned_complement w;
      least = inl refl;
    }

-- a number of an unsigned type has at most 128 bits
pub within_128_bits : (k : ℕ) → 2 ^ k ≤ 2 ^ 128 → (z : ℤ) → FitsUnsignedBits k z → unsigned_abs z < 2 ^ 128
within_128_bits k wide z fits = grind (arith, ints)
