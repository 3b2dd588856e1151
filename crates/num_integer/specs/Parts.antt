-- Numbers by their sign and magnitude, and ranges by the magnitudes of their ends.
use Rattle.std.specs.Prelude.{◌≤ℤ◌, ℤ, ℕ, pos, neg_ℤ, Bool, true, false}

-- The number of this magnitude, negative if the sign is true.
-- Examples: of true and 5: -5; of false and 5: 5.
abbrev pub signed : Bool → ℕ → ℤ
signed true magnitude = neg_ℤ (pos magnitude)
signed false magnitude = pos magnitude

-- z lies in the range from -low to high.
-- Examples: for 128 and 127: -128 and 127 do; 128 does not.
abbrev pub IsWithin : ℕ → ℕ → ℤ → Type 0
IsWithin low high z = (neg_ℤ (pos low) ≤ℤ z) × (z ≤ℤ pos high)
