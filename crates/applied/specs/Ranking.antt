-- The combinatorial number system. A combination is an increasing list of numbers below n. Its rank is the number of combinations of the same length
-- that come before it in colexicographic order.
use Rattle.std.specs.Prelude.{◌≡◌, ◌<◌, ◌+◌, ℕ, List, length, slice_index, slice_index_or, All, sum_by}
use Rattle.std.specs.List.{enumerate_from}
use Rattle.std.specs.List.Sorted.{IsStrictlyIncreasing}
use Rattle.num_integer.specs.Coefficient.{coefficient}

-- The list is a combination. Its numbers are below n, and each is larger than the one before it.
-- Examples: n 5: 0, 2, 3; the empty list; not 0, 2, 2; not 0, 2, 5.
pub record IsChoice (n : ℕ) (numbers : List ℕ) : Type 0 where
  pub increasing : IsStrictlyIncreasing numbers
  pub below : All (λ c. c < n) numbers

-- This is the sum of the binomial coefficients `number choose place`, with the places counted from 1.
-- Examples: 0, 1, 2: 0; 0, 2, 3: 0 + 1 + 1 = 2; the empty list: 0.
unfoldable pub rank_of : List ℕ → ℕ
rank_of numbers = sum_by (λ (place, number). coefficient number place) (enumerate_from 1 numbers)

-- The list is a combination of k numbers below n, and its rank is r.
-- Examples: n 5, k 3: rank 0: 0, 1, 2; rank 2: 0, 2, 3; rank 9: 2, 3, 4.
pub record IsChoiceOfRank (n k r : ℕ) (numbers : List ℕ) : Type 0 where
  pub size : length numbers ≡ k
  pub choice : IsChoice n numbers
  pub rank : rank_of numbers ≡ r

-- The first list comes before the second in colexicographic order. Compare the numbers at the last of the places 0 to k - 1 where the lists differ:
-- the first list has the smaller one.
-- Examples: k 3: 0, 1, 3 before 0, 2, 3; 1, 2, 3 before 0, 1, 4; no list before itself.
pub record IsBefore (k : ℕ) (first second : List ℕ) : Type 0 where
  pub place : ℕ
  pub within : place < k
  pub lesser : slice_index first place < slice_index second place
  pub same_after : (later : ℕ) → place < later → later < k → slice_index first later ≡ slice_index second later

-- Each number is 1 less than the number after it, and the last is n - 1. So no number can be increased.
-- Examples: n 5: 2, 3, 4; the empty list; not 1, 3, 4.
abbrev pub IsLastChoice : ℕ → List ℕ → Type 0
IsLastChoice n numbers = (place : ℕ) → place < length numbers → slice_index numbers place + 1 ≡ slice_index_or numbers (place + 1) n

-- The number at the place, counted from 0, is the first that can be increased by 1. A number can be increased if it stays below the number after it.
-- The last one has to stay below n.
-- Examples: n 5: 0, 1, 4: place 1; 0, 2, 4: place 0; none in 2, 3, 4.
pub record IsFirstToRise (n : ℕ) (numbers : List ℕ) (place : ℕ) : Type 0 where
  pub within : place < length numbers
  pub rises : slice_index numbers place + 1 < slice_index_or numbers (place + 1) n
  pub none_before : (earlier : ℕ) → earlier < place → slice_index numbers earlier + 1 ≡ slice_index_or numbers (earlier + 1) n
