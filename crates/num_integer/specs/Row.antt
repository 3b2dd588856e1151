-- Rows of Pascal's triangle.
use Rattle.std.specs.Prelude.{◌≡◌, ◌+◌, ◌/◌, ◌≤ℤ◌, ◌<ℤ◌, ◌+ℤ◌, ◌-ℤ◌, ℤ, pos, negsuc, unsigned_abs, List, [], map}
use Rattle.std.specs.List.{range_with_len}
use Rattle.num_integer.specs.Coefficient.{coefficient, coefficient_of}

-- The coefficients of n and each number from 0 to n, in order. The row of a negative n is empty.
-- Examples: of 3: 1, 3, 3, 1; of 0: 1; of -1: no item.
unfoldable pub row_of : ℤ → List ℤ
row_of (pos n) = map (λ k. pos (coefficient n k)) (range_with_len 0 (n + 1))
row_of (negsuc n) = []

-- The coefficient in the middle of the row of n, the largest of the row.
-- Examples: of 4: 6; of 3: 3.
abbrev pub middle_of : ℤ → ℤ
middle_of n = pos (coefficient (unsigned_abs n) (unsigned_abs n / 2))

-- If n is not negative, n + 1 and the largest item fit.
-- Examples in u8: 10, whose largest item is 252, and every negative n; not: 11, whose largest item is 462.
abbrev pub RowFits : (ℤ → Type 0) → ℤ → Type 0
RowFits fits n = (pos 0 ≤ℤ n) → fits (n +ℤ pos 1) × fits (middle_of n)

-- An iterator over the row of n is at its k-th item, counted from 0, and returned this item before it.
-- Examples: in the row of 3, at the start: k = 0; after two items: k = 2, and the item is 3.
pub record IsPlaceInRow (fits : ℤ → Type 0) (n k item : ℤ) : Type 0 where
  pub n_in_range : fits n
  pub k_in_range : fits k
  pub k_from_zero : pos 0 ≤ℤ k
  pub row_fits : RowFits fits n
  pub item_in_range : fits item
  pub item_is : pos 0 <ℤ k → k ≤ℤ n → item ≡ coefficient_of n (k -ℤ pos 1)
