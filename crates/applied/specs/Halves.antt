-- Quotients rounded to the nearest integer, with either place for a half.
use Rattle.std.specs.Prelude.{◌≤ℤ◌, ◌<ℤ◌, ℤ, Option, pos}
use Rattle.std.specs.Option.{IsSome}
use Rattle.applied.specs.Rounding.{IsNearest, IsNearestEven}
use Rattle.applied.specs.declared.rounding.checked.Half.{Half}
use Rattle.applied.specs.declared.rounding.checked.Half.TheVariants.{AwayFromZero, ToEven}

-- The kind of nearest quotient that has this place for a half.
-- Examples: 5 by 2: 3 at `AwayFromZero`; 2 at `ToEven`.
abbrev pub NearestBy : Half → ℤ → ℤ → ℤ → ℤ → Type 0
NearestBy AwayFromZero = IsNearest
NearestBy ToEven = IsNearestEven

-- There is a result if a and b are at least 0, and b is at most d, which is positive.
-- Examples: a 5, b 2, d 3: `Some`; a 5, b 3, d 2: nothing is said.
abbrev pub AnswersParts : (a b d : ℤ) → {X : Type 0} → Option X → Type 0
AnswersParts a b d result = pos 0 ≤ℤ a → pos 0 ≤ℤ b → b ≤ℤ d → pos 0 <ℤ d → IsSome result
