-- An amount divided in proportion to weights.
use Rattle.applied.proofs.Common.{◌≡◌, ◌+◌, ◌*◌, ◌<◌, ◌≤◌, ◌<ℤ◌, ◌≤ℤ◌, ◌-ℤ◌, ◌∷◌, ℕ, List, EachIndex, length, slice_index, slice_set, sum, take, ◌∙◌, ap, arith, le_refl, sym, ext_get_or, length-set, take-set-le, take_all, take_more_set, sum_by_more, sum_by_push, mul-le, IsOnly, AreShares, IsNearShare, suc, ℤ, neg_ℤ, pos, [], All, map, unsigned_abs, get_or, refl, set, ints, get_or-map, get_or-set_other, get_or-set_same, length-map, map-set, sum_by-cons, signed_sum}

-- ---- the shares so far

-- the first i shares are those of the first i weights, and `ahead` parts of 1 / total more than their exact share
pub record AreSharedTo (amount : ℕ) (weights : List ℕ) (total i ahead : ℕ) (shares : List ℕ) : Type 0 where
  pub one_each : length shares ≡ length weights
  pub below : ahead < total
  pub place : sum (take i shares) * total ≡ amount * sum (take i weights) + ahead
  pub near : (k : ℕ) → k ≤ i
      → (amount * sum (take k weights) ≤ sum (take k shares) * total) × (sum (take k shares) * total < amount * sum (take k weights) + total)

pub none_shared : {amount total : ℕ} {weights shares : List ℕ} → length shares ≡ length weights → 0 < total
    → AreSharedTo amount weights total 0 0 shares
none_shared {amount} {total} {weights} {shares} size up = grind arith

pub one_more_shared : {amount total i ahead next : ℕ} {weights shares : List ℕ} (share : ℕ) → i < length weights
    → share * total + ahead ≡ amount * slice_index weights i + next → next < total
    → AreSharedTo amount weights total i ahead shares → AreSharedTo amount weights total (i + 1) next (slice_set shares i share)
one_more_shared {amount} {total} {i} {ahead} {next} {weights} {shares} share within is below h =
    let written = ap sum (take_more_set shares i share (omega (arith, h.one_each))) ∙ sum_by_push (λ (x : ℕ). x) (take i shares) share in
    let place : sum (take (i + 1) (slice_set shares i share)) * total ≡ amount * sum (take (i + 1) weights) + next =
    rw (written, sum_by_more (λ (x : ℕ). x) weights i 0 within) (omega (arith, h.place)) in
    record {
      one_each = length-set shares i share ∙ h.one_each;
      below = below;
      place = place;
      near = λ k upto. grind (arith, take-set-le k shares i share, h.near k, place);
    }

pub all_shared : {amount total i ahead : ℕ} {weights shares : List ℕ} → total ≡ sum weights → length weights ≤ i
    → AreSharedTo amount weights total i ahead shares → AreShares amount weights shares
all_shared is end h = grind arith

-- ---- what shares have

-- a rounded quotient is only one
same_quotient : (n d p q : ℕ) → n ≤ p * d → p * d < n + d → n ≤ q * d → q * d < n + d → q ≡ p
same_quotient n d p q enough fewest other_enough other_fewest = grind (arith, mul-le (q + 1) d p d, mul-le (p + 1) d q d, le_refl d)

-- Together they are the amount.
pub shares_are_whole : {amount : ℕ} {weights shares : List ℕ} → 0 < sum weights → AreShares amount weights shares → sum shares ≡ amount
shares_are_whole {amount} {weights} {shares} some h = grind (arith, take, length, take_all, le_refl, same_quotient, sum)

-- Each is near its exact share.
pub shares_are_near : {amount : ℕ} {weights shares : List ℕ} → AreShares amount weights shares
    → EachIndex weights (λ i. IsNearShare amount (slice_index weights i) (sum weights) (slice_index shares i))
shares_are_near {amount} {weights} {shares} h = λ i within.
    let weight = sum_by_more (λ (x : ℕ). x) weights i 0 within in
    let share = sum_by_more (λ (x : ℕ). x) shares i 0 (omega (arith, h.one_each)) in
    let enough = rw (weight, share) at (h.enough (i + 1) (omega arith)) in
    grind arith

-- An amount has one list of shares.
pub shares_are_only : {amount : ℕ} {weights shares : List ℕ} → AreShares amount weights shares → IsOnly (AreShares amount weights) shares
shares_are_only {amount} {weights} {shares} h = λ other k.
    let sums : (j : ℕ) → j ≤ length weights → sum (take j other) ≡ sum (take j shares) =
    λ j within. same_quotient (amount * sum (take j weights)) (sum weights) (sum (take j shares)) (sum (take j other)) (h.enough j within) (h.fewest j within) (k.enough j within) (k.fewest j within) in
    ext_get_or 0 other shares (k.one_each ∙ sym h.one_each) (λ i within.
    let own = sum_by_more (λ (x : ℕ). x) shares i 0 (omega (arith, h.one_each, k.one_each)) in
    let others = sum_by_more (λ (x : ℕ). x) other i 0 within in
    omega (arith, sums i (omega (arith, k.one_each)), sums (i + 1) (omega (arith, k.one_each))))

-- ---- signed shares

-- the first i shares have the sign of the amount
abbrev pub HaveSignTo : ℤ → ℕ → List ℤ → Type 0
HaveSignTo amount i shares = (k : ℕ) (d : ℤ) → k < i → (pos 0 ≤ℤ amount → pos 0 ≤ℤ get_or shares k d) × (amount ≤ℤ pos 0 → get_or shares k d ≤ℤ pos 0)

-- the first i shares have the sign of the amount, and P holds of the magnitudes
pub record AreSignedTo (P : List ℕ → Type 0) (amount : ℤ) (i : ℕ) (shares : List ℤ) : Type 0 where
  pub magnitudes : P (map unsigned_abs shares)
  pub signs : HaveSignTo amount i shares

pub none_signed : {amount : ℤ} {total : ℕ} {weights : List ℕ} {shares : List ℤ} → length shares ≡ length weights → 0 < total
    → AreSignedTo (AreSharedTo (unsigned_abs amount) weights total 0 0) amount 0 shares
none_signed {shares = shares} size up = grind (arith, none_shared, length-map, unsigned_abs)

-- one more, with the magnitude m
pub one_more_signed : {P Q : List ℕ → Type 0} {amount share : ℤ} {m i : ℕ} {shares : List ℤ}
    → (pos 0 ≤ℤ amount → share ≡ pos m) → (amount <ℤ pos 0 → share ≡ neg_ℤ (pos m)) → m ≤ unsigned_abs amount → i < length (map unsigned_abs shares)
    → (P (map unsigned_abs shares) → Q (set (map unsigned_abs shares) i m)) → AreSignedTo P amount i shares
    → AreSignedTo Q amount (i + 1) (set shares i share)
one_more_signed {amount = amount} {share} {m} {i} {shares} from_zero below_zero within room more h =
    let of_sign : (unsigned_abs share ≡ m) × (pos 0 ≤ℤ amount → pos 0 ≤ℤ share) × (amount ≤ℤ pos 0 → share ≤ℤ pos 0) = grind ints in
    let inside : i < length shares = omega (arith, length-map shares unsigned_abs) in
    record {
      magnitudes = rw (map-set unsigned_abs shares i share, of_sign.0) (more h.magnitudes);
      signs = λ k d upto. grind (arith, get_or-set_other shares i k share d, get_or-set_same shares i share d inside, h.signs k d, of_sign);
    }

-- the sum of numbers of one sign, by their magnitudes
sum_of_sign : (numbers : List ℤ) → (All (λ x. pos 0 ≤ℤ x) numbers → signed_sum numbers ≡ pos (sum (map unsigned_abs numbers)))
    × (All (λ x. x ≤ℤ pos 0) numbers → signed_sum numbers ≡ pos 0 -ℤ pos (sum (map unsigned_abs numbers)))
sum_of_sign [] = (λ _. refl, λ _. refl)
sum_of_sign (x ∷ xs) =
    let rest = sum_of_sign xs in
    let more = sum_by-cons (λ (n : ℕ). n) (unsigned_abs x) (map unsigned_abs xs) in
    rw more (
      λ h. let first : pos 0 ≤ℤ x = h 0 (pos 0) (omega arith) in omega (ints, rest.0 (λ k d within. h (suc k) d (omega arith))),
      λ h. let first : x ≤ℤ pos 0 = h 0 (pos 0) (omega arith) in omega (ints, rest.1 (λ k d within. h (suc k) d (omega arith))),
    )

-- the numbers have the sign of the amount
abbrev pub HaveSignOf : ℤ → List ℤ → Type 0
HaveSignOf amount numbers = (pos 0 ≤ℤ amount → All (λ x. pos 0 ≤ℤ x) numbers) × (amount ≤ℤ pos 0 → All (λ x. x ≤ℤ pos 0) numbers)

pub all_signed : {P : List ℕ → Type 0} {amount : ℤ} {i : ℕ} {shares : List ℤ} → length shares ≤ i → AreSignedTo P amount i shares
    → HaveSignOf amount shares
all_signed end h = grind arith

-- Numbers of the sign of the amount are together the amount, if their magnitudes are its magnitude.
pub whole_of_sign : {amount : ℤ} (shares : List ℤ) → HaveSignOf amount shares → sum (map unsigned_abs shares) ≡ unsigned_abs amount
    → signed_sum shares ≡ amount
whole_of_sign {amount} shares h whole =
    grind (ints, sum_of_sign shares)

-- Numbers of the sign of the amount are the same, if their magnitudes are.
pub same_of_sign : {amount : ℤ} {shares other : List ℤ} → HaveSignOf amount shares → HaveSignOf amount other
    → map unsigned_abs other ≡ map unsigned_abs shares → other ≡ shares
same_of_sign {amount} {shares} {other} h k same =
    let size : length other ≡ length shares = sym (length-map other unsigned_abs) ∙ ap length same ∙ length-map shares unsigned_abs in
    ext_get_or (pos 0) other shares size (λ i within.
    let magnitude : unsigned_abs (get_or other i (pos 0)) ≡ unsigned_abs (get_or shares i (pos 0)) =
    sym (get_or-map unsigned_abs other i (pos 0) 0 within) ∙ ap (λ (xs : List ℕ). get_or xs i 0) same ∙ get_or-map unsigned_abs shares i (pos 0) 0 (omega arith) in
    grind ints)
