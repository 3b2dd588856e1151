-- The list of the numbers from another on that have a property, and its length.
use Rattle.std.specs.Prelude.{◌≡◌, ◌≤ℤ◌, ◌+ℤ◌, ℤ, pos, List, [], ◌∷◌, length}
use Rattle.num_integer.specs.Least.{IsLeastFrom}

-- The items are all the numbers from `from` on that have the property, each once and in increasing order.
-- Examples: being even and at most 7: from 3: 4, 6; from 7: none.
abbrev pub AreAllFrom : ℤ → (ℤ → Type 0) → List ℤ → Type 0
AreAllFrom from Has [] = (u : ℤ) → from ≤ℤ u → ¬ (Has u)
AreAllFrom from Has (t ∷ items) = IsLeastFrom from Has t × AreAllFrom (t +ℤ pos 1) Has items

-- The count is the number of the numbers from `from` on that have the property. It is the length of their list.
-- Examples: being even and at most 7: from 3: 2; from 7: 0.
pub record IsCountFrom (from : ℤ) (Has : ℤ → Type 0) (count : ℤ) : Type 0 where
  pub items : List ℤ
  pub all : AreAllFrom from Has items
  pub counted : count ≡ pos (length items)
