-- The order of decimal numbers, by the whole numbers and by the rests.
use Rattle.ratio64.proofs.Common.{◌≡◌, ◌≤◌, ◌+◌, ◌-◌, ◌^◌, ◌<ℤ◌, ◌≤ℤ◌, ◌+ℤ◌, ◌*ℤ◌, ℕ, ℤ, pos, arith, refl, sym, ◌∙◌, ap, comm, expand, linear, multiples_apart, floored_range, product_from_zero, IsFloored, int_cmp_is, int_ranked, FitsSigned, w128, to_z, of_z, to_z-of_z, fits_signed_from_abs, sizes, places_of, units_of, Equal, Greater, Less}
use Rattle.ratio64.proofs.DecimalTexts.{ten_up}
use Rattle.ratio64.specs.Decimal.{quintillionths_of}
use Rattle.ratio64.specs.FractionOrder.{int_cmp_times}
use Rattle.ratio64.specs.declared.decimal.Decimal.{Decimal}
use Rattle.std.proofs.lemmas.Nat.{pow-add}
use Rattle.std.specs.Ordering.{MatchOrdering, int_cmp, ordering_then}
use Rattle.std.specs.declared.cmp.Ordering.{Ordering}

-- ---- a number as a whole number and a rest

pub quintillion : (p : ℕ) → p ≤ 18 → pos (10 ^ p) *ℤ pos (10 ^ (18 - p)) ≡ pos (10 ^ 18)
quintillion p few =
    let all : p + (18 - p) ≡ 18 = omega arith in
    ap pos (sym (pow-add 10 p (18 - p)) ∙ ap (λ (t : ℕ). 10 ^ t) all)

pub in_quintillionths : {u q r : ℤ} (p : ℕ) → p ≤ 18 → IsFloored u (pos (10 ^ p)) q r
    → u *ℤ pos (10 ^ (18 - p)) ≡ q *ℤ pos (10 ^ 18) +ℤ r *ℤ pos (10 ^ (18 - p))
in_quintillionths {u} {q} {r} p few x =
    let all = quintillion p few in
    rw (x.division.equation, ← all) (simp expand)

pub rest_range : {u q r : ℤ} (p : ℕ) → p ≤ 18 → IsFloored u (pos (10 ^ p)) q r
    → (pos 0 ≤ℤ (r *ℤ pos (10 ^ (18 - p)))) × ((r *ℤ pos (10 ^ (18 - p))) <ℤ pos (10 ^ 18))
rest_range {r = r} p few x =
    let some = ten_up p in
    let some_more = ten_up (18 - p) in
    let range = floored_range (omega linear) x in
    let last = multiples_apart r (pos (10 ^ p)) (pos (10 ^ (18 - p))) (omega linear) range.1 in
    let all = quintillion p few in
    (product_from_zero r (pos (10 ^ (18 - p))) range.0 (omega linear), omega (linear, last, all))

-- the same as `i128` computes it
pub computed_parts : {u q r q_read r_read s : ℤ} (p : ℕ) → p ≤ 18 → IsFloored u (pos (10 ^ p)) q r → q_read ≡ q → r_read ≡ r → s ≡ pos (10 ^ (18 - p))
    → FitsSigned w128 (r_read *ℤ s) × (u *ℤ pos (10 ^ (18 - p)) ≡ q_read *ℤ pos (10 ^ 18) +ℤ to_z w128 (of_z w128 (r_read *ℤ s)))
    × (pos 0 ≤ℤ to_z w128 (of_z w128 (r_read *ℤ s))) × (to_z w128 (of_z w128 (r_read *ℤ s)) <ℤ pos (10 ^ 18))
computed_parts {u} {q} {r} p few x q_same r_same s_same =
    let range = rest_range p few x in
    let rest = r *ℤ pos (10 ^ (18 - p)) in
    let fits : FitsSigned w128 rest = fits_signed_from_abs w128 rest (omega (sizes, range)) in
    rw (q_same, r_same, s_same, to_z-of_z w128 rest fits) (fits, in_quintillionths p few x, range.0, range.1)

-- ---- two of them

-- with the same places, numbers compare as their units do
pub same_places : (x y : Decimal) → places_of x ≡ places_of y
    → int_cmp (units_of x) (units_of y) ≡ int_cmp (quintillionths_of x) (quintillionths_of y)
same_places x y same =
    let scale = pos (10 ^ (18 - places_of x)) in
    let up = ten_up (18 - places_of x) in
    let times = int_cmp_times scale (units_of x) (units_of y) (omega linear) in
    let left : quintillionths_of x ≡ scale *ℤ units_of x = comm (units_of x) scale in
    let right : quintillionths_of y ≡ scale *ℤ units_of y = comm (units_of y) _ ∙ ap (λ (p : ℕ). pos (10 ^ (18 - p)) *ℤ units_of y) (sym same) in
    rw (left, right) times

module _ (a b r s k : ℤ) (up : pos 0 <ℤ k) (r_in : (pos 0 ≤ℤ r) × (r <ℤ k)) (s_in : (pos 0 ≤ℤ s) × (s <ℤ k)) where
  ranked : (p q : Ordering) → MatchOrdering p (a <ℤ b) (a ≡ b) (b <ℤ a) → MatchOrdering q (r <ℤ s) (r ≡ s) (s <ℤ r)
      → MatchOrdering (ordering_then p q) ((a *ℤ k +ℤ r) <ℤ (b *ℤ k +ℤ s)) (a *ℤ k +ℤ r ≡ b *ℤ k +ℤ s) ((b *ℤ k +ℤ s) <ℤ (a *ℤ k +ℤ r))
  ranked Less q h j = omega (linear, multiples_apart a b k up h, r_in, s_in)
  ranked Greater q h j = omega (linear, multiples_apart b a k up h, r_in, s_in)
  ranked Equal Less h j = rw h (omega linear)
  ranked Equal Equal h j = rw (h, j) refl
  ranked Equal Greater h j = rw h (omega linear)

  pub compared : ordering_then (int_cmp a b) (int_cmp r s) ≡ int_cmp (a *ℤ k +ℤ r) (b *ℤ k +ℤ s)
  compared = int_cmp_is _ _ _ (ranked (int_cmp a b) (int_cmp r s) (int_ranked a b (int_cmp a b) refl) (int_ranked r s (int_cmp r s) refl))
