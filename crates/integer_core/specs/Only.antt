-- Uniqueness.
use Rattle.std.specs.Prelude.{◌≡◌}

-- x is the only one with the property P: whatever has it is x.
-- Examples: being twice itself: 0; being the gcd of 56 and 42: 14; having the square 4: neither 2 nor -2.
abbrev pub IsOnly : {A : Type 0} → (A → Type 0) → A → Type 0
IsOnly {A} P x = (y : A) → P y → y ≡ x
