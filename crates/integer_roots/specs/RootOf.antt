-- The root of an integer, rounded toward 0, by powers.
use Rattle.std.specs.Prelude.{◌≡◌, ◌%◌, ◌≤ℤ◌, ◌<ℤ◌, ◌+ℤ◌, ◌⊎◌, ◌^◌, ℕ, ℤ, pos, neg_ℤ}
use Rattle.std.specs.Int.{int_pow}

-- r is not negative, its power of degree n is at most x, and the power of r + 1 is above x.
-- Examples: 99 at degree 2: 9; 12345 at 4: 10; 7 at 3: 1.
pub record IsFloorRoot (x : ℤ) (n : ℕ) (r : ℤ) : Type 0 where
  pub from_zero : pos 0 ≤ℤ r
  pub power_le : int_pow r n ≤ℤ x
  pub next_power_gt : x <ℤ int_pow (r +ℤ pos 1) n

-- If x is not negative, r is its floor root; if x is negative, the degree is odd and r is minus the floor root of -x.
-- Examples: -9 at 3: -2; -128 at 7: -2; none of -1 at 2.
pub record IsRoot (x : ℤ) (n : ℕ) (r : ℤ) : Type 0 where
  pub from_zero : pos 0 ≤ℤ x → IsFloorRoot x n r
  pub below_zero : x <ℤ pos 0 → (n % 2 ≡ 1) × IsFloorRoot (neg_ℤ x) n (neg_ℤ r)

-- The range of a type has at most 64 bits: high is below 2^64, and below 2^63 if low is negative.
-- Examples: the range of u64; that of i8; not that of i128.
abbrev pub IsWithin64Bits : ℤ → ℤ → Type 0
IsWithin64Bits low high = (high <ℤ pos (2 ^ 64)) × ((pos 0 ≤ℤ low) ⊎ (high <ℤ pos (2 ^ 63)))
