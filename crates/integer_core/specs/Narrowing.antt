-- Conversions to a narrower type.
use Rattle.std.specs.Prelude.{◌≡◌, ℤ, Result, MatchResult}

-- A conversion returns the value that means a number if the type has one, and otherwise fails.
-- Examples: to `i8`: 127; -128; not 128.
abbrev pub Narrows : {T E : Type 0} → (T → ℤ) → (ℤ → Type 0) → (ℤ → Result T E → Type 0) → Type 0
Narrows {T} {E} value fits gives = (n : ℤ) (r : Result T E) → gives n r
    → MatchResult r (λ x. (value x ≡ n) × fits n) (λ _. ¬ (fits n))
