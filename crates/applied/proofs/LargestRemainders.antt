-- An amount divided in proportion to weights by largest remainders.
use Rattle.applied.proofs.Common.{◌≡◌, ◌⊎◌, ◌+◌, ◌*◌, ◌-◌, ◌<◌, ◌≤◌, ◌∷◌, ℕ, List, [], EachIndex, length, slice_index, slice_set, sum, sum_by, take, suc, inl, inr, refl, ◌∙◌, ap, arith, mul-le-mul_left, le_of_mul-le-mul_right, cond, leb, count_by, cases_lt, le-leb, lt-leb, get_or-set_other, get_or-set_same, length-set, take_all, take_more_set, count_by_more_no, count_by_more_yes, sum_by-cons, sum_by_more, sum_by_push, AreSharesByRemainder, IsNearShare, RoundsShare, count_from, remainder_of, rounded_down, SharesByRemainderAreOnly}

-- ---- exact shares

-- an exact share is its number rounded down and its remainder
pub exact_parts : (amount total weight : ℕ) → 0 < total
    → (rounded_down amount total weight * total + remainder_of amount total weight ≡ amount * weight) × (remainder_of amount total weight < total)
exact_parts amount total weight up = (omega arith, omega arith)

-- the exact shares together are the amount
pub exact_sum : (amount total : ℕ) (weights : List ℕ) → 0 < total
    → sum_by (rounded_down amount total) weights * total + sum_by (remainder_of amount total) weights ≡ amount * sum weights
exact_sum amount total [] up = omega arith
exact_sum amount total (w ∷ ws) up =
    rw (sum_by-cons (rounded_down amount total) w ws, sum_by-cons (remainder_of amount total) w ws, sum_by-cons (λ (x : ℕ). x) w ws)
    (omega (arith, exact_sum amount total ws up, (exact_parts amount total w up).0))

-- the first exact shares, rounded down, are at most the amount
pub down_within : (amount total i : ℕ) (weights : List ℕ) → 0 < total → sum (take i weights) ≤ total
    → sum_by (rounded_down amount total) (take i weights) ≤ amount
down_within amount total i weights up within =
    le_of_mul-le-mul_right {m = sum_by (rounded_down amount total) (take i weights)} {n = amount} {k = total}
    (omega (arith, exact_sum amount total (take i weights) up, mul-le-mul_left amount within)) up

-- ---- how many remainders reach a bar

-- how many weights have a remainder R of at least `bar`
abbrev pub reached : (ℕ → ℕ) → ℕ → List ℕ → ℕ
reached R bar weights = count_by (λ weight. leb bar (R weight)) weights

-- one weight more
pub reached_more : (R : ℕ → ℕ) (bar : ℕ) (weights : List ℕ) (i : ℕ) → i < length weights
    → (bar ≤ R (slice_index weights i) → reached R bar (take (i + 1) weights) ≡ reached R bar (take i weights) + 1)
    × (R (slice_index weights i) < bar → reached R bar (take (i + 1) weights) ≡ reached R bar (take i weights))
reached_more R bar weights i within = grind (arith, le-leb, lt-leb, count_by_more_yes (λ weight. leb bar (R weight)) weights i 0, count_by_more_no (λ weight. leb bar (R weight)) weights i 0)

-- one weight before
reached-cons : (R : ℕ → ℕ) (bar w : ℕ) (ws : List ℕ)
    → (bar ≤ R w → reached R bar (w ∷ ws) ≡ suc (reached R bar ws)) × (R w < bar → reached R bar (w ∷ ws) ≡ reached R bar ws)
reached-cons R bar w ws =
    let one = sum_by-cons (λ (x : ℕ). cond (leb bar (R x)) 1 0) w ws in (
      λ reaches. one ∙ ap (λ b. cond b 1 0 + reached R bar ws) (le-leb bar (R w) reaches) ∙ omega arith,
      λ below. one ∙ ap (λ b. cond b 1 0 + reached R bar ws) (lt-leb bar (R w) below) ∙ omega arith,
    )

-- no remainder reaches the total
pub none_reached : (amount total : ℕ) (weights : List ℕ) → 0 < total → count_from amount total total weights ≡ 0
none_reached amount total [] up = refl
none_reached amount total (w ∷ ws) up =
    (reached-cons (remainder_of amount total) total w ws).1 (exact_parts amount total w up).1 ∙ none_reached amount total ws up

-- the remainders together are at most the total for each that is not 0
remainders_within : (amount total : ℕ) (weights : List ℕ) → 0 < total
    → sum_by (remainder_of amount total) weights ≤ count_from amount total 1 weights * total
remainders_within amount total [] up = omega arith
remainders_within amount total (w ∷ ws) up =
    let rest = remainders_within amount total ws up in
    let count = reached-cons (remainder_of amount total) 1 w ws in
    rw (sum_by-cons (remainder_of amount total) w ws) (elim (cases_lt (remainder_of amount total w) 1) [
      | inl none ↦ rw (count.1 none) (omega (arith, rest))
      | inr some ↦ rw (count.0 some) (omega (arith, rest, (exact_parts amount total w up).1))
    ])

-- the units that are over are at most one for each remainder that is not 0
pub units_within : {amount total units : ℕ} (weights : List ℕ) → 0 < total → total ≡ sum weights
    → units + sum_by (rounded_down amount total) weights ≡ amount → units ≤ count_from amount total 1 weights
units_within {amount} {total} {units} weights up is over =
    let whole : (units + sum_by (rounded_down amount total) weights) * total ≡ amount * total = rw over refl in
    le_of_mul-le-mul_right {m = units} {n = count_from amount total 1 weights} {k = total}
    (omega (arith, exact_sum amount total weights up, remainders_within amount total weights up, ap (λ (t : ℕ). amount * t) is, whole)) up

-- ---- the shares so far

-- The first i shares are F, and 1 more for the remainders R that reach the bar and for some that are 1 below it. `left` of the extra units are left.
pub record AreRaisedTo (F R : ℕ → ℕ) (bar extra : ℕ) (weights : List ℕ) (i left : ℕ) (shares : List ℕ) : Type 0 where
  pub one_each : length shares ≡ length weights
  pub fewer : left ≤ extra
  pub whole : sum (take i shares) + left ≡ sum_by F (take i weights) + reached R bar (take i weights) + extra
  pub enough : 0 < left → left + reached R (bar - 1) (take i weights) ≡ extra + reached R bar (take i weights)
  pub rounded : (k : ℕ) → k < i → (slice_index shares k ≡ F (slice_index weights k)) ⊎ (slice_index shares k ≡ F (slice_index weights k) + 1)
  pub raised : (k : ℕ) → k < i → slice_index shares k ≡ F (slice_index weights k) + 1
      → (bar ≤ R (slice_index weights k) + 1) × (0 < R (slice_index weights k))
  pub kept : (k : ℕ) → k < i → slice_index shares k ≡ F (slice_index weights k)
      → (R (slice_index weights k) < bar) × (0 < left → R (slice_index weights k) + 1 < bar)
  pub order : (j k : ℕ) → j < i → k < i → slice_index shares j ≡ F (slice_index weights j) + 1 → slice_index shares k ≡ F (slice_index weights k)
      → (R (slice_index weights k) < R (slice_index weights j)) ⊎ ((R (slice_index weights k) ≡ R (slice_index weights j)) × (j < k))

-- what becomes of the share at i: a and b of the remainders reach the bar without it and with it, and u and v the number below the bar
rounded_step : {F r bar left share next extra a b u v : ℕ} → RoundsShare F r bar left share next → 0 < bar → (0 < extra → 1 < bar) → left ≤ extra
    → (bar ≤ r → b ≡ a + 1) × (r < bar → b ≡ a) → (bar - 1 ≤ r → v ≡ u + 1) × (r < bar - 1 → v ≡ u) → (0 < left → left + u ≡ extra + a)
    → (next ≤ left) × (share + next + a ≡ F + left + b) × (0 < next → next + v ≡ extra + b) × ((share ≡ F) ⊎ (share ≡ F + 1))
    × (share ≡ F + 1 → (bar ≤ r + 1) × (0 < r) × ((bar ≤ r) ⊎ (0 < left))) × (share ≡ F → (r < bar) × (0 < next → r + 1 < bar))
rounded_step {F} {r} {bar} {left} {share} {next} h up one fewer at under enough = grind arith

module _ {F R : ℕ → ℕ} {bar extra i left : ℕ} {weights shares : List ℕ} (share next : ℕ) (within : i < length weights) (h : AreRaisedTo F R bar extra weights i left shares) where
  room : i < length shares
  room = omega (arith, h.one_each)

  here : slice_index (slice_set shares i share) i ≡ share
  here = get_or-set_same shares i share 0 room

  before : (k : ℕ) → k < i → slice_index (slice_set shares i share) k ≡ slice_index shares k
  before k less = get_or-set_other shares i k share 0 (λ e. omega arith)

  pub one_more_raised : 0 < bar → (0 < extra → 1 < bar) → RoundsShare (F (slice_index weights i)) (R (slice_index weights i)) bar left share next
      → AreRaisedTo F R bar extra weights (i + 1) next (slice_set shares i share)
  one_more_raised up one rounds =
      let own = rounded_step rounds up one h.fewer (reached_more R bar weights i within) (reached_more R (bar - 1) weights i within) h.enough in
      record {
        one_each = length-set shares i share ∙ h.one_each;
        fewer = omega (arith, h.fewer, own.0);
        whole =
            let written = ap sum (take_more_set shares i share room) ∙ sum_by_push (λ (x : ℕ). x) (take i shares) share in
            rw (written, sum_by_more F weights i 0 within) (omega (arith, h.whole, own.1));
        enough = own.2;
        rounded = λ k upto. grind (arith, cases_lt k i, before k, here, h.rounded k, own.3);
        raised = λ k upto. grind (arith, cases_lt k i, before k, here, h.raised k, own.4);
        kept = λ k upto. grind (arith, cases_lt k i, before k, here, h.kept k, own.0, own.5);
        order = λ j k j_upto k_upto up down.
            grind (arith, cases_lt j i, cases_lt k i, before j, before k, here, h.order j k, h.raised j, h.kept k, own.4, own.5);
      }

-- ---- all shares

pub all_raised : {amount total bar extra i left : ℕ} {weights shares : List ℕ} → total ≡ sum weights → length weights ≤ i
    → count_from amount total bar weights + extra + sum_by (rounded_down amount total) weights ≡ amount
    → (0 < extra → count_from amount total bar weights + extra < count_from amount total (bar - 1) weights)
    → AreRaisedTo (rounded_down amount total) (remainder_of amount total) bar extra weights i left shares → AreSharesByRemainder amount weights shares
all_raised {amount} {total} {bar} {extra} {i} {left} {weights} {shares} is end units enough h = grind (arith, take_all)

-- Each is near its exact share.
pub raised_are_near : {amount total bar extra i left : ℕ} {weights shares : List ℕ} → total ≡ sum weights → 0 < total → length weights ≤ i
    → AreRaisedTo (rounded_down amount total) (remainder_of amount total) bar extra weights i left shares
    → EachIndex weights (λ k. IsNearShare amount (slice_index weights k) (sum weights) (slice_index shares k))
raised_are_near {amount} {total} {weights = weights} {shares = shares} is up end h = grind (arith, exact_parts)

-- ---- an amount has one list of shares

-- if other numbers are no more together, they are the same or one of them is less
less_somewhere : (xs ys : List ℕ) → length xs ≡ length ys → sum ys ≤ sum xs
    → (ys ≡ xs) ⊎ ((i : ℕ) × (i < length ys) × (slice_index ys i < slice_index xs i))
less_somewhere [] [] size within = inl refl
less_somewhere [] (y ∷ ys) size within = absurd (omega arith)
less_somewhere (x ∷ xs) [] size within = absurd (omega arith)
less_somewhere (x ∷ xs) (y ∷ ys) size within =
    let all_xs = sum_by-cons (λ (n : ℕ). n) x xs in
    let all_ys = sum_by-cons (λ (n : ℕ). n) y ys in
    elim (cases_lt y x) [
      | inl less ↦ inr (0, omega arith, less)
      | inr not_less ↦ elim (less_somewhere xs ys (omega arith) (omega arith)) [
        | inl same ↦ let own : y ≡ x = omega (arith, ap sum same) in inl (rw (own, same) refl)
        | inr (i, upto, less) ↦ inr (suc i, omega arith, less)
      ]
    ]

pub shares_by_remainder_are_only : SharesByRemainderAreOnly
shares_by_remainder_are_only = λ amount weights shares h. grind (arith, less_somewhere)
