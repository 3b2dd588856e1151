-- An amount divided in proportion to weights.
use Rattle.std.specs.Prelude.{◌≡◌, ◌≢◌, ◌⊎◌, ◌↔◌, ◌<◌, ◌≤◌, ◌+◌, ◌*◌, ◌/◌, ◌%◌, ◌≤ℤ◌, ◌+ℤ◌, ℕ, ℤ, pos, List, [], ◌∷◌, All, EachIndex, Err, IsOk, OnErr, Result, leb, length, map, slice_index, sum, take, unsigned_abs}
use Rattle.std.specs.List.{count_by}
use Rattle.applied.specs.declared.shares.error.SharesError.{SharesError}
use Rattle.applied.specs.declared.shares.error.SharesError.TheVariants.{DifferentLengths, ZeroWeights}

-- There is one share for each weight, and the weights are not all 0.
-- Examples: weights 1, 1, 1 and three shares; weights 0, 3 and two shares; not weights 1, 1, 1 and two shares; not weights 0, 0.
abbrev pub CanBeShared : {A : Type 0} → List ℕ → List A → Type 0
CanBeShared weights shares = (length shares ≡ length weights) × (0 < sum weights)

-- The call succeeds exactly if there can be shares. Otherwise its error is the one whose condition holds, and the shares stay as they were.
-- Examples: weights 1, 1, 1 and two shares: `DifferentLengths`; weights 0, 0 and two shares: `ZeroWeights`.
abbrev pub AnswersShares : {A V : Type 0} → List ℕ → List A → List A → Result V SharesError → Type 0
AnswersShares weights before after result = (IsOk result ↔ CanBeShared weights before)
    × ((result ≡ Err DifferentLengths) ↔ (length before ≢ length weights))
    × ((result ≡ Err ZeroWeights) ↔ ((length before ≡ length weights) × (sum weights ≡ 0)))
    × OnErr result (after ≡ before)

-- For each k, the sum of the first k shares is the exact share of the first k weights, rounded up. That exact share is amount · (sum of these
-- weights) / (sum of all weights).
-- Examples: amount 100: weights 1, 1, 1: 34, 33, 33; weights 1, 2: 34, 66; weights 0, 3: 0, 100; no shares for weights 0, 0.
pub record AreShares (amount : ℕ) (weights shares : List ℕ) : Type 0 where
  pub one_each : length shares ≡ length weights
  pub enough : (k : ℕ) → k ≤ length weights → amount * sum (take k weights) ≤ sum (take k shares) * sum weights
  pub fewest : (k : ℕ) → k ≤ length weights → sum (take k shares) * sum weights < amount * sum (take k weights) + sum weights

-- The share differs by less than 1 from the exact share, amount · weight / total.
-- Examples: amount 100, weight 1, total 3: 33; 34; not 32; not 35. Amount 100, weight 1, total 4: 25; not 26.
pub record IsNearShare (amount weight total share : ℕ) : Type 0 where
  pub not_above : share * total < amount * weight + total
  pub not_below : amount * weight < share * total + total

-- This is the exact share of a weight, rounded down. The exact share is amount · weight / total.
-- Examples: amount 100, total 3: weight 1: 33; weight 2: 66.
abbrev pub rounded_down : ℕ → ℕ → ℕ → ℕ
rounded_down amount total weight = amount * weight / total

-- This is the remainder of the exact share, in parts of 1 / total.
-- Examples: amount 100, total 3: weight 1: 1; weight 2: 2.
abbrev pub remainder_of : ℕ → ℕ → ℕ → ℕ
remainder_of amount total weight = amount * weight % total

-- Together the shares are the amount. Each is its exact share rounded down, or 1 more. A weight that gets 1 more has a larger remainder than one
-- that does not, or the same remainder and stands before it.
-- Examples: amount 2, weights 1, 1, 98: 0, 0, 2; amount 100: weights 1, 1, 1: 34, 33, 33; weights 1, 2: 33, 67.
pub record AreSharesByRemainder (amount : ℕ) (weights shares : List ℕ) : Type 0 where
  pub one_each : length shares ≡ length weights
  pub whole : sum shares ≡ amount
  pub rounded : EachIndex weights (λ i. (slice_index shares i ≡ rounded_down amount (sum weights) (slice_index weights i))
      ⊎ (slice_index shares i ≡ rounded_down amount (sum weights) (slice_index weights i) + 1))
  pub largest : (i j : ℕ) → i < length weights → j < length weights
      → slice_index shares i ≡ rounded_down amount (sum weights) (slice_index weights i) + 1
      → slice_index shares j ≡ rounded_down amount (sum weights) (slice_index weights j)
      → (remainder_of amount (sum weights) (slice_index weights j) < remainder_of amount (sum weights) (slice_index weights i))
      ⊎ ((remainder_of amount (sum weights) (slice_index weights j) ≡ remainder_of amount (sum weights) (slice_index weights i)) × (i < j))

-- This is how many of the weights have a remainder of at least `bar`.
-- Examples: amount 100, total 6, bar 3, weights 1, 2, 3: 1 (100 modulo 6 is 4, 200 is 2 and 300 is 0).
abbrev pub count_from : ℕ → ℕ → ℕ → List ℕ → ℕ
count_from amount total bar weights = count_by (λ weight. leb bar (remainder_of amount total weight)) weights

-- Of the exact share `down` and the remainder, the share is `down + 1` if the remainder reaches the bar, or is 1 below it and a unit is left, which
-- it takes. Otherwise it is `down`. `next` units are left.
-- Examples: down 33, bar 5: remainder 6, left 1: share 34, next 1; remainder 4, left 1: share 34, next 0; remainder 4, left 0: share 33, next 0.
pub record RoundsShare (down remainder bar left share next : ℕ) : Type 0 where
  pub above : bar ≤ remainder → (share ≡ down + 1) × (next ≡ left)
  pub at : remainder + 1 ≡ bar → 0 < left → (share ≡ down + 1) × (next + 1 ≡ left)
  pub none_left : remainder + 1 ≡ bar → left ≡ 0 → (share ≡ down) × (next ≡ left)
  pub below : remainder + 1 < bar → (share ≡ down) × (next ≡ left)

-- This is the sum of signed numbers.
-- Examples: -34, -33, -33: -100; 5, -7: -2; no numbers: 0.
abbrev pub signed_sum : List ℤ → ℤ
signed_sum [] = pos 0
signed_sum (number ∷ numbers) = number +ℤ signed_sum numbers

-- The magnitudes of the shares are the shares of the magnitude of the amount. No share has the opposite sign.
-- Examples: weights 1, 1, 1: amount -100: -34, -33, -33; amount 100: 34, 33, 33; amount 0: 0, 0, 0.
pub record AreSignedShares (amount : ℤ) (weights : List ℕ) (shares : List ℤ) : Type 0 where
  pub magnitudes : AreShares (unsigned_abs amount) weights (map unsigned_abs shares)
  pub from_zero : pos 0 ≤ℤ amount → All (λ share. pos 0 ≤ℤ share) shares
  pub to_zero : amount ≤ℤ pos 0 → All (λ share. share ≤ℤ pos 0) shares

-- The magnitudes of the shares are those of the magnitude of the amount by largest remainders. No share has the opposite sign.
-- Examples: weights 1, 1, 98: amount -2: 0, 0, -2; amount 2: 0, 0, 2; weights 1, 2: amount -100: -33, -67.
pub record AreSignedSharesByRemainder (amount : ℤ) (weights : List ℕ) (shares : List ℤ) : Type 0 where
  pub magnitudes : AreSharesByRemainder (unsigned_abs amount) weights (map unsigned_abs shares)
  pub from_zero : pos 0 ≤ℤ amount → All (λ share. pos 0 ≤ℤ share) shares
  pub to_zero : amount ≤ℤ pos 0 → All (λ share. share ≤ℤ pos 0) shares
