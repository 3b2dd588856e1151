-- The sums of the numbers in the same places of two lists.
use Rattle.std.specs.Prelude.{◌≡◌, ◌≢◌, ◌⊎◌, ◌<◌, ◌+ℤ◌, ℕ, ℤ, List, pos, get_or, length, map}
use Rattle.cellarcove_c.specs.Answers.{Answers}
use Rattle.cellarcove_c.specs.Statuses.{IsReason}

-- Each number of the third list is the sum of those in its place in the first two.
-- Examples: of 2, -8 and 3, 5: 5, -3; not 5 alone.
pub record AreSums (a b sums : List ℤ) : Type 0 where
  pub one_each : length sums ≡ length a
  pub each : (k : ℕ) → k < length a → get_or sums k (pos 0) ≡ get_or a k (pos 0) +ℤ get_or b k (pos 0)

-- The sum of the numbers in each place of the two lists fits.
-- Examples: in i64: of 2, -8 and 3, 5; not of 2, 2^63 - 1 and 3, 1.
abbrev pub SumsFit : (ℤ → Type 0) → List ℤ → List ℤ → Type 0
SumsFit fits a b = (k : ℕ) → k < length a → fits (get_or a k (pos 0) +ℤ get_or b k (pos 0))

-- The status is 0 and the new list has the sums of two lists. Or the list is the old one, and the status is `outside` if the
-- three do not have the same length, and else `not_fitting`, since a sum does not fit.
-- Examples: of 2, -8 and 3, 5: 0 and 5, -3; of 2 and no number: 3; of 2^63 - 1 and 1: 2.
abbrev pub WritesSums : {A : Type 0} → (ℤ → Type 0) → (A → ℤ) → List A → List A → List A → ℕ → List A → Type 0
WritesSums fits value a b old status sums = Answers
    ((length b ≡ length a) × (length old ≡ length a) × SumsFit fits (map value a) (map value b))
    (λ found. AreSums (map value a) (map value b) (map value found))
    (IsReason ((length b ≢ length a) ⊎ (length old ≢ length a))) old status sums
