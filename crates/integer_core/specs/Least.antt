-- The smallest number with a property that is at least another, and the largest that is at most another.
use Rattle.std.specs.Prelude.{◌≤ℤ◌, ℤ}

-- t is the smallest number with the property that is at least `from`.
-- Examples: of the even numbers: from 7: 8; from 8: 8; of the numbers at most 5: from 6: no number.
pub record IsLeastFrom (from : ℤ) (Has : ℤ → Type 0) (t : ℤ) : Type 0 where
  pub from_there : from ≤ℤ t
  pub holds : Has t
  pub least : (u : ℤ) → from ≤ℤ u → Has u → t ≤ℤ u

-- t is the largest number with the property that is at most `to`.
-- Examples: of the even numbers: to 7: 6; to 6: 6; of the numbers at least 5: to 4: no number.
pub record IsGreatestTo (to : ℤ) (Has : ℤ → Type 0) (t : ℤ) : Type 0 where
  pub to_there : t ≤ℤ to
  pub holds : Has t
  pub greatest : (u : ℤ) → u ≤ℤ to → Has u → u ≤ℤ t
