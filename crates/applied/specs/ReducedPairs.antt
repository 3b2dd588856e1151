-- Pairs of numbers, divided by their greatest common divisor.
use Rattle.std.specs.Prelude.{◌≡◌, ◌≢◌, ◌⊎◌, ◌↔◌, ◌<ℤ◌, ◌*ℤ◌, ℤ, pos}
use Rattle.num_integer.specs.Divisors.{IsGreatestCommonDivisor}

-- x has the sign of a: both are positive, both are negative, or both are 0.
-- Examples: a 12, x 3; a -5, x -1; a 0, x 0; not a 0, x 1.
pub record HasSignOf (a x : ℤ) : Type 0 where
  pub positive : (pos 0 <ℤ x) ↔ (pos 0 <ℤ a)
  pub negative : (x <ℤ pos 0) ↔ (a <ℤ pos 0)

-- x to y is the ratio of a to b. x has the sign of a, and y has the sign of b. If a or b is not 0, x and y are coprime.
-- Examples: 1920 and 1080: 16 and 9; -6 and 4: -3 and 2; 0 and -5: 0 and -1; 0 and 0: 0 and 0.
pub record IsReducedPair (a b x y : ℤ) : Type 0 where
  pub ratio : a *ℤ y ≡ b *ℤ x
  pub first_sign : HasSignOf a x
  pub second_sign : HasSignOf b y
  pub coprime : (a ≢ pos 0) ⊎ (b ≢ pos 0) → IsGreatestCommonDivisor x y (pos 1)
