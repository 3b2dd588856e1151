-- An amount in equal instalments, the first of which has the rest too.
use Rattle.std.specs.Prelude.{◌≡◌, ◌≤ℤ◌, ◌<ℤ◌, ◌+ℤ◌, ◌-ℤ◌, ℕ, zero, suc, ℤ, pos, List, [], ◌∷◌, replicate}
use Rattle.applied.specs.Shares.{signed_sum}

-- The instalments are `count` numbers, and their sum is the amount. All but the first are equal. If the amount is positive, the first is at least another
-- one, and less than `count` above it. If the amount is negative, it is at most another one, and less than `count` below it.
-- Examples: 100 in 3: 34, 33, 33; 100 in 7: 16, 14, 14, 14, 14, 14, 14; -100 in 3: -34, -33, -33; 2 in 3: 2, 0, 0; 5 in 1: 5; not 100 in 3: 33, 33, 34.
pub record AreInstalments (amount count : ℤ) (instalments : List ℤ) : Type 0 where
  pub first : ℤ
  pub other : ℤ
  pub others : ℕ
  pub counted : count ≡ pos others +ℤ pos 1
  pub equal : instalments ≡ first ∷ replicate others other
  pub whole : signed_sum instalments ≡ amount
  pub of_positive : pos 0 ≤ℤ amount → (other ≤ℤ first) × (first <ℤ (other +ℤ count))
  pub of_negative : amount ≤ℤ pos 0 → (first ≤ℤ other) × ((other -ℤ count) <ℤ first)

-- The list begins with the next instalment, and has `count` numbers. All but the first are `other`.
-- Examples: 3, next 34, other 33: 34, 33, 33; 1, 33, 33: 33; 0, 33, 33: the empty list.
abbrev pub instalments_left : ℕ → ℤ → ℤ → List ℤ
instalments_left zero next other = []
instalments_left (suc others) next other = next ∷ replicate others other

-- The type holds the next instalment, another one and their number, which is not negative.
-- Examples in i8: 34, 33 and 3; not 34, 33 and -1; not 200, 33 and 3.
pub record CanGoOn (fits : ℤ → Type 0) (next other count : ℤ) : Type 0 where
  pub next_in_range : fits next
  pub other_in_range : fits other
  pub count_in_range : fits count
  pub from_zero : pos 0 ≤ℤ count
