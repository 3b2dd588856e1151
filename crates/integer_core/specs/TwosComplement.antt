-- A type in two's complement: the definition, and lemmas by which the signed and the unsigned types meet it.
use Rattle.std.specs.Prelude.{◌≡◌, ◌^◌, ◌*◌, ◌/◌, ◌<◌, ◌≤◌, ◌-◌, ◌-ℤ◌, ℤ, ℕ, pos, negsuc, suc}
use Rattle.std.specs.Int.{Width, w8, w16, w32, w64, w128, bit_at, cast_signed}
use Rattle.std.proofs.Common.{refl, arith, inl, inr, subst, pow_pos, div-lt_iff_lt-mul, le-div_iff_mul-le}
use Rattle.std.proofs.Math.Facts.{to_z-neg}
use Rattle.std.proofs.lemmas.Bool.{cases_lt}
use Rattle.std.proofs.lemmas.Int.{ints, to_z_pos}
use Rattle.std.proofs.lemmas.Nat.Bits.{bit_at_above}
use Rattle.num_traits.specs.Laws.{bit_len}
use mir.Val.{bits, hbits}

-- The bits n of a type of width w mean the number n, or n - weight if the highest bit is set.
-- Examples: i8: weight 256, the bits 255: -1; the bits 127: 127; u8: weight 0, the bits 255: 255.
pub record IsTwosComplement (w : Width) (number : ℕ → ℤ) : Type 0 where
  pub weight : ℕ
  pub is : (n : ℕ) → n < 2 ^ bit_len w → number n ≡ (pos n -ℤ pos (weight * bit_at n (hbits w)))

-- one more bit doubles the numbers
pub doubled : (w : Width) → (2 ^ bit_len w ≡ 2 * 2 ^ hbits w) × (2 ^ bits w ≡ 2 * 2 ^ hbits w)
doubled w8 = (refl, refl)
doubled w16 = (refl, refl)
doubled w32 = (refl, refl)
doubled w64 = (refl, refl)
doubled w128 = (refl, refl)

signed_number : (w : Width) (n : ℕ) → n < 2 ^ bit_len w → cast_signed w n ≡ (pos n -ℤ pos (2 ^ bit_len w * bit_at n (hbits w)))
signed_number w n small = elim (cases_lt n (2 ^ hbits w)) [
  | inl low ↦
      let top : bit_at n (hbits w) ≡ 0 = bit_at_above n (hbits w) (hbits w) low (omega arith) in
      rw (to_z_pos w n low, top) (omega (arith, ints))
  | inr high ↦
      let most : n / 2 ^ hbits w < 2 = (div-lt_iff_lt-mul (pow_pos (hbits w))).1 (omega (arith, doubled w)) in
      let least : 1 ≤ n / 2 ^ hbits w = (le-div_iff_mul-le (pow_pos (hbits w))).1 (omega arith) in
      let top : bit_at n (hbits w) ≡ 1 = omega arith in
      let below : cast_signed w n ≡ negsuc (2 ^ bits w - suc n) =
      subst (λ m. cast_signed w m ≡ negsuc (2 ^ bits w - suc n)) (omega (arith, doubled w)) (to_z-neg w (2 ^ bits w - suc n) (omega (arith, doubled w))) in
      rw (below, top) (omega (arith, ints, doubled w))
]

-- the highest bit of a signed type weighs 1 more than all its bits together
pub signed_complement : (w : Width) → IsTwosComplement w (cast_signed w)
signed_complement w = record { weight = 2 ^ bit_len w; is = signed_number w }

-- the highest bit of an unsigned type weighs nothing more
pub unsigned_complement : (w : Width) → IsTwosComplement w (λ n. pos n)
unsigned_complement w = record { weight = 0; is = λ n small. omega (arith, ints) }
