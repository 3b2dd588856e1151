-- Lists to which a loop pushes items.
use Rattle.applied.proofs.Common.{[], ◌∷◌, ◌++◌, ◌≡◌, ◌<◌, ◌+◌, ◌*◌, ◌/◌, ℕ, zero, suc, List, ap, arith, length, refl, sum_by-cons}
use Rattle.std.proofs.Common.{◌%◌, length-append}
use Rattle.std.specs.List.{slice_get, sum_by}
use Rattle.std.specs.Option.{IsSomeAnd}

-- What holds of each item of a list, at its place, and of one more item, holds of each item of the list with that one more.
pub each_pushed : {A : Type 0} (P : ℕ → A → Type 0) (xs : List A) (y : A) → ((k : ℕ) → k < length xs → IsSomeAnd (slice_get xs k) (P k))
    → P (length xs) y
    → (k : ℕ) → k < length xs + 1 → IsSomeAnd (slice_get (xs ++ y ∷ []) k) (P k)
each_pushed P [] y all more zero below = more
each_pushed P [] y all more (suc k) below = absurd (omega arith)
each_pushed P (x ∷ xs) y all more zero below = all zero (omega arith)
each_pushed P (x ∷ xs) y all more (suc k) below = each_pushed (λ n. P (suc n)) xs y (λ n within. all (suc n) (omega arith)) more k (omega arith)

-- So it is of a list of n items to which a loop pushes one more.
pub items_pushed : {A : Type 0} (P : ℕ → A → Type 0) {n : ℕ} (xs ys : List A) (y : A) → ys ≡ xs ++ y ∷ []
    → (length xs ≡ n) × ((k : ℕ) → k < n → IsSomeAnd (slice_get xs k) (P k)) → P n y
    → (length ys ≡ n + 1) × ((k : ℕ) → k < n + 1 → IsSomeAnd (slice_get ys k) (P k))
items_pushed P xs ys y pushed h more =
    rw (pushed, ← h.0) (length-append xs (y ∷ []), each_pushed P xs y (λ k below. h.1 k (omega (arith, h.0, below))) (rw (← h.0) at more))

-- ---- sums

module _ {A : Type 0} (cost : A → ℕ) where
  equal_costs : {other : ℕ} (P : ℕ → A → Type 0) (xs : List A) {n : ℕ} → length xs ≡ n → ((k : ℕ) → k < n → IsSomeAnd (slice_get xs k) (P k))
      → ((k : ℕ) (x : A) → P k x → cost x ≡ other) → sum_by cost xs ≡ n * other
  equal_costs P [] counted each is = rw (← counted) (omega arith)
  equal_costs {other} P (x ∷ xs) {n} counted each is =
      let own : cost x ≡ other = is 0 x (each 0 (omega arith)) in
      let rest : sum_by cost xs ≡ length xs * other = equal_costs (λ k. P (suc k)) xs refl (λ k below. each (suc k) (omega arith)) (λ k. is (suc k)) in
      let times : suc (length xs) * other ≡ n * other = ap (λ (m : ℕ). m * other) counted in
      omega (arith, sum_by-cons cost x xs, own, rest, times)

  -- Items that cost the instalments of an amount, at their places, cost the amount.
  pub sum_of_instalments : {amount count : ℕ} (P : ℕ → A → Type 0) (xs : List A) → 0 < count → length xs ≡ count
      → ((k : ℕ) → k < count → IsSomeAnd (slice_get xs k) (P k)) → ((x : A) → P 0 x → cost x ≡ amount / count + amount % count)
      → ((k : ℕ) (x : A) → P (suc k) x → cost x ≡ amount / count) → sum_by cost xs ≡ amount
  sum_of_instalments P [] up counted each first other = absurd (omega arith)
  sum_of_instalments {amount} {count} P (x ∷ xs) up counted each first other =
      let own : cost x ≡ amount / count + amount % count = first x (each 0 up) in
      let rest : sum_by cost xs ≡ length xs * (amount / count) = equal_costs (λ k. P (suc k)) xs refl (λ k below. each (suc k) (omega arith)) other in
      let times : suc (length xs) * (amount / count) ≡ count * (amount / count) = ap (λ (n : ℕ). n * (amount / count)) counted in
      omega (arith, sum_by-cons cost x xs, own, rest, times)
