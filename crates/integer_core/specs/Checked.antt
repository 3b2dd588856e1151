-- Calls that return a result exactly in their domain.
use Rattle.std.specs.Prelude.{ℤ, Option, MatchOption}

-- The result is `Some` of a value with the property in the domain, and `None` outside it.
-- Examples: in the domain `y ≢ 0`, of the property 'is 7 / y': for y = 2 the result is `Some` of 3, and for y = 0 it is `None`.
abbrev pub AnswersWhere : {A : Type 0} → Type 0 → (A → Type 0) → Option A → Type 0
AnswersWhere domain answer result = MatchOption result (¬ domain) (λ r. domain × answer r)

-- The number that x means is in the range of its type and has the property.
-- Examples: of 'is 100 + 27' in i8: 127 has it; nothing has that of 'is 100 + 28'.
abbrev pub FitsWith : (ℤ → Type 0) → {X : Type 0} → (X → ℤ) → (ℤ → Type 0) → X → Type 0
FitsWith fits value P x = fits (value x) × P (value x)
