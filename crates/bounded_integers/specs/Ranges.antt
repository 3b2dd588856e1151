-- The ranges of bounded integers, and lemmas that prove the laws of their types.
use Rattle.std.specs.Prelude.{◌≡◌, ◌⊎◌, ◌^◌, ◌≤◌, ◌<◌, ◌≤ℤ◌, ◌<ℤ◌, ◌-ℤ◌, ℕ, ℤ, pos, neg_ℤ, FitsSigned}
use Rattle.std.proofs.Common.{arith, inl, inr, refl}
use Rattle.std.proofs.lemmas.Int.{ints}
use Rattle.std.specs.Int.{w64}
use Rattle.num_integer.specs.Between.{Between, between_range}
use Rattle.num_integer.specs.Range.{IsRange}
use Rattle.num_integer.specs.RootOf.{IsWithin64Bits}

-- A type of bounded integers may have this range: low is 0, -high or -high - 1, and above the smallest `i64`; high is positive and fits an `i64`.
-- Examples: 0 to 100; -7 to 7; -8 to 7; not 1 to 12; not -7 to 100.
pub record IsBoundedRange (low high : ℤ) : Type 0 where
  pub low_end : (low ≡ pos 0) ⊎ ((low ≡ neg_ℤ high) ⊎ (low ≡ (neg_ℤ high -ℤ pos 1)))
  pub positive : pos 1 ≤ℤ high
  pub above : neg_ℤ (pos (2 ^ 63)) <ℤ low
  pub below : high <ℤ pos (2 ^ 63)

-- the range from 0 to high
pub natural_range : (high : ℕ) → 1 ≤ high → high < 2 ^ 63 → IsBoundedRange (pos 0) (pos high)
natural_range high positive fits = record {
  low_end = inl refl;
  positive = omega (arith, ints);
  above = omega (arith, ints);
  below = omega (arith, ints);
}

-- the range from -high to high
pub signed_range : (high : ℕ) → 1 ≤ high → high < 2 ^ 63 → IsBoundedRange (neg_ℤ (pos high)) (pos high)
signed_range high positive fits = record {
  low_end = inr (inl refl);
  positive = omega (arith, ints);
  above = omega (arith, ints);
  below = omega (arith, ints);
}

-- it is the range of a lawful type
pub range_of : {low high : ℤ} → IsBoundedRange low high → IsRange (Between low high) low high
range_of {low} {high} range = between_range low high range.low_end range.positive (omega (arith, ints, range.below)) (inr (omega (arith, ints, range.below)))

-- low is at most 0
pub low_below : {low high : ℤ} → IsBoundedRange low high → low ≤ℤ pos 0
low_below range = grind (arith, ints, range.low_end, range.positive)

-- 0 is in the range
pub zero_inside : {low high : ℤ} → IsBoundedRange low high → Between low high (pos 0)
zero_inside range = (low_below range, omega (arith, ints, range.positive))

-- 1 is in the range
pub one_inside : {low high : ℤ} → IsBoundedRange low high → Between low high (pos 1)
one_inside range = (omega (arith, ints, low_below range), range.positive)

-- 64 bits hold its ends, and the smallest number with the other sign
pub ends_fit : {low high : ℤ} → IsBoundedRange low high → FitsSigned w64 low × FitsSigned w64 high × FitsSigned w64 (neg_ℤ low)
ends_fit range = (omega (arith, ints, range.above, low_below range), omega (arith, ints, range.below, range.positive), omega (arith, ints, range.above, low_below range))

-- a range that a type of at most 64 bits holds has at most 64 bits
pub within_width : {fits : ℤ → Type 0} {low high least most : ℤ} → IsRange fits least most → fits low × fits high × fits (neg_ℤ low)
    → IsWithin64Bits least most → IsWithin64Bits low high
within_width {low = low} {high = high} native ends width =
    let from = (native.between low).0 ends.0 in
    let to = (native.between high).0 ends.1 in
    grind (arith, ints, from, to, width)
