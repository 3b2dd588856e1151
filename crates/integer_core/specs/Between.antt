-- The integers from low to high, as the range of a lawful type: the definition, and lemmas that prove its laws.
use Rattle.std.specs.Prelude.{◌≡◌, ◌≢◌, ◌⊎◌, ◌^◌, ◌≤ℤ◌, ◌<ℤ◌, ◌-ℤ◌, ℤ, pos, neg_ℤ, unsigned_abs}
use Rattle.std.proofs.Common.{arith}
use Rattle.std.proofs.Math.Nat.{div-le_self}
use Rattle.std.proofs.lemmas.Int.{ints}
use Rattle.num_traits.specs.Laws.{CanDivideIn}
use Rattle.integer_core.specs.Range.{IsRange}

-- z is at least low and at most high.
-- Examples: from 0 to 100: 0 and 100; from -7 to 7: -7; not from 0 to 100: 101.
abbrev pub Between : ℤ → ℤ → ℤ → Type 0
Between low high z = (low ≤ℤ z) × (z ≤ℤ high)

-- a number between two numbers of the range is in the range
pub between_law : (low high x y z : ℤ) → Between low high x → Between low high z → x ≤ℤ y → y ≤ℤ z → Between low high y
between_law low high x y z f g h k = omega (arith, ints)

-- a number of the range minus a number from 0 to itself is in the range
pub sub_fits_law : (low high x y : ℤ) → low ≤ℤ pos 0 → Between low high x → pos 0 ≤ℤ y → y ≤ℤ x → Between low high (x -ℤ y)
sub_fits_law low high x y from f h k = omega (arith, ints)

-- a number of the range may be divided by a positive one of it
pub positive_divisor_law : (low high x y : ℤ) → low ≤ℤ pos 0 → pos 0 ≤ℤ high → Between low high x → Between low high y → pos 0 <ℤ y
    → CanDivideIn (Between low high) (λ z. z ≢ pos 0) x y
positive_divisor_law low high x y from to f g h = grind (arith, ints, div-le_self (unsigned_abs x) (unsigned_abs y))

-- the range of a type, from the four facts on its ends
pub between_range : (low high : ℤ) → (low ≡ pos 0) ⊎ ((low ≡ neg_ℤ high) ⊎ (low ≡ (neg_ℤ high -ℤ pos 1))) → pos 1 ≤ℤ high
    → high <ℤ pos (2 ^ 128) → (pos 0 ≤ℤ low) ⊎ (high <ℤ pos (2 ^ 127)) → IsRange (Between low high) low high
between_range low high ends positive bounded bounded_below = record {
  between = λ z. ((λ h. h), (λ h. h));
  low_end = ends;
  positive = positive;
  bounded = bounded;
  bounded_below = bounded_below;
}
