-- Sums of signed numbers, and totals that no type has.
use Rattle.applied.specs.Totals.{wrapped}
use Rattle.applied.proofs.Common.{◌≡◌, ◌<◌, ◌≤◌, ◌^◌, ◌+◌, ◌+ℤ◌, ◌∷◌, ◌++◌, ℕ, ℤ, pos, unsigned_abs, List, [], length, get_or, map, take, arith, refl, map_more, take_all, IsRange, linear, signed_sum}

-- ---- sums of lists

pub signed_sum_nil : signed_sum [] ≡ pos 0
signed_sum_nil = refl

pub signed_sum_cons : (x : ℤ) (xs : List ℤ) → signed_sum (x ∷ xs) ≡ x +ℤ signed_sum xs
signed_sum_cons x xs = refl

pub signed_sum_append : (xs ys : List ℤ) → signed_sum (xs ++ ys) ≡ signed_sum xs +ℤ signed_sum ys
signed_sum_append [] ys = omega linear
signed_sum_append (x ∷ xs) ys = omega (linear, signed_sum_append xs ys)

-- ---- totals

-- a total is the sum of the first i numbers of a list, and it has passed either end of its 128 bits at most once for each of them
pub record IsTotalOf {X : Type 0} (value : X → ℤ) (items : List X) (i low over under : ℕ) : Type 0 where
  pub so_far : wrapped low over under ≡ signed_sum (map value (take i items))
  pub over_times : over ≤ i
  pub under_times : under ≤ i

module _ {X : Type 0} {value : X → ℤ} {items : List X} {i low over under : ℕ} (total : IsTotalOf value items i low over under) where
  -- with the next number the total is that of the first i + 1
  pub total_more : {x : X} {v : ℤ} {next_low next_over next_under : ℕ} → i < length items → x ≡ get_or items i x → v ≡ value x
      → wrapped next_low next_over next_under ≡ wrapped low over under +ℤ v
      → next_over ≤ over + 1 → next_under ≤ under + 1 → IsTotalOf value items (i + 1) next_low next_over next_under
  total_more {x} within at is sum over_more under_more = record {
    so_far = rw (map_more value items i x within, ← at, signed_sum_append (map value (take i items)) (value x ∷ []))
        (omega (linear, total.so_far, is, sum));
    over_times = omega (arith, total.over_times);
    under_times = omega (arith, total.under_times);
  }

  -- at the end of the list it is the sum of all numbers
  pub total_of_all : length items ≤ i → wrapped low over under ≡ signed_sum (map value items)
  total_of_all end = rw (take_all i items end) at total.so_far

-- a number whose magnitude has more than 128 bits is out of each range
pub wide_out_of_range : {fits : ℤ → Type 0} {low high : ℤ} {z : ℤ} → IsRange fits low high → 2 ^ 128 ≤ unsigned_abs z → ¬ (fits z)
wide_out_of_range {z = z} range large z_fits = grind arith
