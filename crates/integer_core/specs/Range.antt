-- The range of a lawful type.
use Rattle.std.specs.Prelude.{◌≡◌, ◌⊎◌, ◌↔◌, ◌^◌, ◌≤ℤ◌, ◌<ℤ◌, ◌-ℤ◌, ℤ, pos, neg_ℤ}

-- The numbers that fit the type are those from low to high; low is 0, -high or -high - 1, and high is at least 1, below
-- 2^128, and below 2^127 if low is negative.
-- Examples: i8: -128 to 127; u64: 0 to 18446744073709551615; your own type: -7 to 7.
pub record IsRange (fits : ℤ → Type 0) (low high : ℤ) : Type 0 where
  pub between : (z : ℤ) → fits z ↔ ((low ≤ℤ z) × (z ≤ℤ high))
  pub low_end : (low ≡ pos 0) ⊎ ((low ≡ neg_ℤ high) ⊎ (low ≡ (neg_ℤ high -ℤ pos 1)))
  pub positive : pos 1 ≤ℤ high
  pub bounded : high <ℤ pos (2 ^ 128)
  pub bounded_below : (pos 0 ≤ℤ low) ⊎ (high <ℤ pos (2 ^ 127))

-- Each number with the property P fits.
-- Examples in i8: 'is a quotient of -128 by 2'; 'is a quotient of 1 by 0', since there is none; not 'is a quotient of
-- -128 by -1', since 128 is one.
abbrev pub EachFits : (ℤ → Type 0) → (ℤ → Type 0) → Type 0
EachFits fits P = (z : ℤ) → P z → fits z
