-- The complement of a number, which has the other bits.
use Rattle.std.proofs.Common.{◌≡◌, ◌-◌, ◌/◌, ◌^◌, ◌<◌, ℕ, ℤ, FitsSigned, ap, arith, inl, inr, of_z, to_z, w64}
use Rattle.std.proofs.Math.Facts.{Fits-of_z, to_z-neg}
use Rattle.std.proofs.lemmas.Int.{ints, to_z-of_z, to_z_pos}
use Rattle.std.proofs.lemmas.Nat.{and_mask, le_or_l, le_or_r, or_lt}
use Rattle.std.specs.Int.Bits.{bit_or, bit_xor, xor_add_and}
use Rattle.std.specs.Int.Signed.{shr_z}
use Rattle.std.specs.Prelude.{◌⊎◌, ◌↔◌, ◌≤◌, ◌+◌, ◌%◌, ◌-ℤ◌, ◌<ℤ◌, ◌≤ℤ◌, negsuc, pos, suc, zero}

xor_ones : (a : ℕ) → a < 2 ^ 64 → bit_xor a (2 ^ 64 - 1) ≡ 2 ^ 64 - 1 - a
xor_ones a fits = omega (arith, xor_add_and a (2 ^ 64 - 1), and_mask a 64, fits)

pub complement_of_bits : (number : ℤ) → FitsSigned w64 number → to_z w64 (2 ^ 64 - 1 - of_z w64 number) ≡ pos 0 -ℤ number -ℤ pos 1
complement_of_bits (pos n) fits =
    let bits : 2 ^ 64 - 1 - n ≡ 2 ^ 64 - suc n = omega arith in
    let value : pos 0 -ℤ pos n -ℤ pos 1 ≡ negsuc n = omega (arith, ints) in
    rw (bits, value) (to_z-neg w64 n fits.sfits)
complement_of_bits (negsuc n) fits =
    let bits : 2 ^ 64 - 1 - (2 ^ 64 - suc n) ≡ n = omega (arith, fits.sfits) in
    let value : pos 0 -ℤ negsuc n -ℤ pos 1 ≡ pos n = omega (arith, ints) in
    rw (bits, value) (to_z_pos w64 n fits.sfits)

pub complement_is : (number sign : ℤ) → FitsSigned w64 number → FitsSigned w64 sign → sign <ℤ pos 0
    → to_z w64 (bit_xor (of_z w64 number) (of_z w64 (shr_z (to_z w64 (of_z w64 sign)) (2 ^ 63)))) ≡ pos 0 -ℤ number -ℤ pos 1
complement_is number (pos s) _ _ below = omega (arith, ints, below)
complement_is number (negsuc s) fits s_fits _ =
    let none : s / 2 ^ 63 ≡ 0 = omega (arith, s_fits.sfits) in
    let ones : of_z w64 (shr_z (negsuc s) (2 ^ 63)) ≡ 2 ^ 64 - 1 = ap (λ (v : ℕ). 2 ^ 64 - suc v) none in
    rw (to_z-of_z w64 (negsuc s) s_fits, ones, xor_ones (of_z w64 number) (Fits-of_z fits).fits) (complement_of_bits number fits)

-- ---- the sign of a number less 1, or of the number

negative_of_bits : (n v : ℕ) → v ≡ 2 ^ 64 - suc n → n < 2 ^ 63 → to_z w64 v <ℤ pos 0
negative_of_bits n v is small = rw (is, to_z-neg w64 n small) (omega (arith, ints))

-- the bits of two numbers, of which one is negative
negative_or : (a b : ℕ) → a < 2 ^ 64 → b < 2 ^ 64 → (2 ^ 63 ≤ a) ⊎ (2 ^ 63 ≤ b) → to_z w64 (bit_or a b) <ℤ pos 0
negative_or a b a_fits b_fits one =
    negative_of_bits (2 ^ 64 - 1 - bit_or a b) (bit_or a b) (omega (arith, or_lt 64 a b a_fits b_fits)) (omega (arith, one, le_or_l a b, le_or_r a b))

pub negative_unless_positive_is : (x : ℤ) → FitsSigned w64 x
    → (to_z w64 (bit_or ((of_z w64 x + (2 ^ 64 - 1)) % 2 ^ 64) (of_z w64 x)) <ℤ pos 0) ↔ (x ≤ℤ pos 0)
negative_unless_positive_is (pos zero) fits =
    (λ _. omega (arith, ints), λ _. negative_or ((0 + (2 ^ 64 - 1)) % 2 ^ 64) 0 (omega arith) (omega arith) (inl (omega arith)))
negative_unless_positive_is (pos (suc n)) fits =
    let before : (suc n + (2 ^ 64 - 1)) % 2 ^ 64 ≡ n = omega (arith, fits.sfits) in
    let read = to_z_pos w64 (bit_or n (suc n)) (or_lt 63 n (suc n) (omega (arith, fits.sfits)) fits.sfits) in
    rw (before, read) (λ h. omega (arith, ints, h), λ h. omega (arith, ints, h))
negative_unless_positive_is (negsuc n) fits =
    let large : 2 ^ 63 ≤ 2 ^ 64 - suc n = omega (arith, fits.sfits) in
    (λ _. omega (arith, ints), λ _. negative_or ((2 ^ 64 - suc n + (2 ^ 64 - 1)) % 2 ^ 64) (2 ^ 64 - suc n) (omega arith) (omega arith) (inr large))
