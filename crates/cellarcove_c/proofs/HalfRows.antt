-- Rows of Pascal's triangle one after the other, each up to its middle.
use Rattle.cellarcove_c.proofs.Common.{◌≡◌, ◌+◌, ◌-◌, ◌*◌, ◌/◌, ◌<◌, ◌≤◌, ℕ, zero, suc, min, List, [], ◌∷◌, ◌++◌, length, take, get_or, ◌∙◌, ap, arith, inl, inr, mul-le-mul, refl, cases_lt, get_or-append_right, get_or-take, get_or_append_left, length-take-le, coefficient, coefficient_zero, none_above, pascal, coefficient_mirror}

-- the sums of each two neighbours of a row, whose first number follows `before`
unfoldable pub sums : ℕ → List ℕ → List ℕ
sums before [] = before ∷ []
sums before (c ∷ cs) = (before + c) ∷ sums c cs

-- so many rows, from the row of n on
unfoldable pub half_rows : ℕ → ℕ → List ℕ → List ℕ
half_rows n zero row = []
half_rows n (suc count) row = take (n / 2 + 1) row ++ half_rows (suc n) count (sums 0 row)

-- ---- a row

-- a list is the row of n
record IsRow (n : ℕ) (row : List ℕ) : Type 0 where
  size : length row ≡ suc n
  items : (k : ℕ) → get_or row k 0 ≡ coefficient n k

first_row : IsRow 0 (1 ∷ [])
first_row = grind (arith, coefficient_zero, none_above)

length-sums : (before : ℕ) (row : List ℕ) → length (sums before row) ≡ suc (length row)
unfolding sums
length-sums before [] = refl
length-sums before (c ∷ cs) = ap suc (length-sums c cs)

sums-first : (before : ℕ) (row : List ℕ) → get_or (sums before row) 0 0 ≡ before + get_or row 0 0
unfolding sums
sums-first before [] = omega arith
sums-first before (c ∷ cs) = refl

sums-next : (before : ℕ) (row : List ℕ) (k : ℕ) → get_or (sums before row) (suc k) 0 ≡ get_or row k 0 + get_or row (suc k) 0
unfolding sums
sums-next before [] k = refl
sums-next before (c ∷ cs) zero = sums-first c cs
sums-next before (c ∷ cs) (suc k) = sums-next c cs k

next_items : (n : ℕ) (row : List ℕ) → IsRow n row → (k : ℕ) → get_or (sums 0 row) k 0 ≡ coefficient (suc n) k
next_items n row is zero = omega (arith, sums-first 0 row, is.items 0, coefficient_zero n, coefficient_zero (suc n))
next_items n row is (suc k) = omega (arith, sums-next 0 row k, is.items k, is.items (suc k), pascal n k)

-- ---- where it begins

-- the number of the items before the row of n
abbrev pub start : ℕ → ℕ
start n = (n / 2 + 1) * (n - n / 2)

start-suc : (n : ℕ) → start (suc n) ≡ start n + (n / 2 + 1)
start-suc n = grind arith

start-rises : (n m : ℕ) → n ≤ m → start n ≤ start m
start-rises n m h = mul-le-mul (omega arith) (omega arith)

-- ---- the item of n and k

item_at : (count n m k i : ℕ) (row : List ℕ) → IsRow n row → n ≤ m → m < n + count → k ≤ m / 2 → i + start n ≡ start m + k
    → get_or (half_rows n count row) i 0 ≡ coefficient m k
unfolding half_rows
item_at zero n m k i row is from below near at = absurd (omega arith)
item_at (suc count) n m k i row is from below near at =
    let half = n / 2 + 1 in
    let rest = half_rows (suc n) count (sums 0 row) in
    let long : length (take half row) ≡ half = length-take-le half row (omega (arith, is.size)) in
    elim (cases_lt n m) [
      | inl later ↦
          let past : half ≤ i = omega (arith, start-rises (suc n) m later, start-suc n) in
          let next : IsRow (suc n) (sums 0 row) = record { size = length-sums 0 row ∙ ap suc is.size; items = next_items n row is } in
          get_or-append_right (take half row) rest half i 0 long past
          ∙ item_at count (suc n) m k (i - half) (sums 0 row) next later (omega arith) near (omega (arith, start-suc n))
      | inr here ↦
          let same : m ≡ n = omega arith in
          let place : i ≡ k = omega (arith, ap start same) in
          get_or_append_left (take half row) rest 0 i (omega arith) ∙ get_or-take half row i 0 (omega arith)
          ∙ is.items i ∙ rw (same, place) refl
    ]

-- The rows of the numbers below 68 have the coefficient of n and k. It stands at the place of k, or at that of n - k if it is smaller.
pub item_of : (rows : List ℕ) (n k near : ℕ) → rows ≡ half_rows 0 68 (1 ∷ []) → n < 68 → k ≤ n → near ≡ min k (n - k)
    → get_or rows (start n + near) 0 ≡ coefficient n k
item_of rows n k near same small within is = grind (arith, item_at, first_row, coefficient_mirror)
