-- Quotients, remainders and multiples by their definition: they exist, they are the only ones, and when they fit.
use Rattle.integer_core.proofs.Common.{◌≡◌, ◌≢◌, ◌⊎◌, ◌<◌, ◌≤◌, ◌+ℤ◌, ◌-ℤ◌, ◌*ℤ◌, ◌↔◌, quot-rem, rem_below, ℤ, pos, negsuc, neg_ℤ, unsigned_abs, int_div, int_rem, arith, ◌∙◌, inl, inr, subst, ints, unsigned_abs-mul, mul-le, mod-le, le-mul_of_pos_right, linear, sizes, products, expand, dist, neg_mul, IsDivision, IsTruncated, IsFloored, IsCeiled, IsQuotient, IsRemainder, EachKind, HaveSameSign, HaveOppositeSigns, IsRange, EachFits, IsMultiple, IsOnly}
use Rattle.integer_core.proofs.Ranges.{LiesWithin, within_fits}

pub zero_or_not : (z : ℤ) → (z ≡ pos 0) ⊎ (z ≢ pos 0)
zero_or_not z = grind (arith, linear)

-- ---- the only ones

-- a multiple of d that is smaller than d
pub small_multiple : (k d : ℤ) → unsigned_abs (k *ℤ d) < unsigned_abs d → k ≡ pos 0
small_multiple k d h = grind (arith, ints, unsigned_abs-mul k d, le-mul_of_pos_right {m = unsigned_abs k} (unsigned_abs d))

only_one : {n d q r p s : ℤ} → IsDivision n d q r → IsDivision n d p s → unsigned_abs (s -ℤ r) < unsigned_abs d → (q ≡ p) × (r ≡ s)
only_one {n} {d} {q} {r} {p} {s} h k near =
    let gap : (q -ℤ p) *ℤ d ≡ s -ℤ r = simp (dist, neg_mul) (omega (arith, linear)) in
    let none = small_multiple (q -ℤ p) d (rw gap near) in
    omega (arith, products, rw none at gap)

-- a number has one truncated quotient and remainder
pub only_truncated : {n d q r p s : ℤ} → IsTruncated n d q r → IsTruncated n d p s → (q ≡ p) × (r ≡ s)
only_truncated h k = only_one h.division k.division (omega (arith, sizes))

-- a number has one floored quotient and remainder
pub only_floored : {n d q r p s : ℤ} → IsFloored n d q r → IsFloored n d p s → (q ≡ p) × (r ≡ s)
only_floored h k = only_one h.division k.division (omega (arith, sizes))

-- a number has one ceiled quotient and remainder
pub only_ceiled : {n d q r p s : ℤ} → IsCeiled n d q r → IsCeiled n d p s → (q ≡ p) × (r ≡ s)
only_ceiled h k = only_one h.division k.division (omega (arith, sizes))

-- the quotient of one division and the remainder of another are those of one
pub of_one_division : {n d q r : ℤ} → IsQuotient IsFloored n d q → IsRemainder IsFloored n d r → IsFloored n d q r
of_one_division {n} {d} {q} h k = subst (IsFloored n d q) (only_floored h.division k.division).1 h.division

-- ---- from one kind to another

-- one more than a floored quotient that is not exact
pub ceiled_above : {n d q r : ℤ} → IsFloored n d q r → r ≢ pos 0 → IsCeiled n d (q +ℤ pos 1) (r -ℤ d)
ceiled_above h inexact = record {
  division = record { equation = h.division.equation ∙ simp expand (omega (arith, products)); small = omega (arith, sizes) };
  sign = grind (arith, sizes);
}

pub ceiled_exact : {n d q r : ℤ} → IsFloored n d q r → r ≡ pos 0 → IsCeiled n d q r
ceiled_exact h exact = record { division = h.division; sign = inl exact }

-- one less than a truncated quotient whose remainder has the other sign
pub floored_below : {n d q r : ℤ} → IsTruncated n d q r → HaveOppositeSigns r d → IsFloored n d (q -ℤ pos 1) (r +ℤ d)
floored_below h signs = record {
  division = record { equation = h.division.equation ∙ simp expand (omega (arith, products)); small = omega (arith, sizes) };
  sign = grind (arith, sizes);
}

pub floored_same : {n d q r : ℤ} → IsTruncated n d q r → (r ≡ pos 0) ⊎ HaveSameSign r d → IsFloored n d q r
floored_same h sign = record { division = h.division; sign = sign }

-- by -1 a quotient is exact
pub floored_by_minus_one : (n d : ℤ) → d ≡ negsuc 0 → IsFloored n d (neg_ℤ n) (pos 0)
floored_by_minus_one n d e = grind (arith, products, sizes)

-- ---- they exist

pub remainder_within : (n d : ℤ) → LiesWithin n (int_rem n d)
remainder_within n d = grind (arith, ints, int_rem, mod-le)

-- what `/` and `%` return
pub truncated_is : (n d : ℤ) → d ≢ pos 0 → IsTruncated n d (int_div n d) (int_rem n d)
truncated_is n d nonzero = grind (arith, linear, remainder_within n d, quot-rem n d, rem_below n d (omega (arith, sizes)))

same_or_opposite : (r d : ℤ) → d ≢ pos 0 → ((r ≡ pos 0) ⊎ HaveSameSign r d) ⊎ HaveOppositeSigns r d
same_or_opposite r d nonzero = grind (arith, linear)

pub floored_exists : (n d : ℤ) → d ≢ pos 0 → (q r : ℤ) × IsFloored n d q r
floored_exists n d nonzero = elim (same_or_opposite (int_rem n d) d nonzero) [
  | inl same ↦ (_, _, floored_same (truncated_is n d nonzero) same)
  | inr opposite ↦ (_, _, floored_below (truncated_is n d nonzero) opposite)
]

pub ceiled_exists : (n d : ℤ) → d ≢ pos 0 → (q r : ℤ) × IsCeiled n d q r
ceiled_exists n d nonzero =
    let h = floored_exists n d nonzero in
    elim (zero_or_not h.1) [ inl exact ↦ (_, _, ceiled_exact h.2 exact) | inr inexact ↦ (_, _, ceiled_above h.2 inexact) ]

pub division_exists : EachKind (λ Kind. (n d : ℤ) → d ≢ pos 0 → (q r : ℤ) × Kind n d q r)
division_exists = (λ n d nonzero. (_, _, truncated_is n d nonzero), floored_exists, ceiled_exists)

-- ---- when they fit

module _ {fits : ℤ → Type 0} {low high n d : ℤ} (range : IsRange fits low high) (n_fits : fits n) (d_fits : fits d) where
  -- any quotient by 2 or more in magnitude fits
  far_quotient_fits : {q r : ℤ} → 2 ≤ unsigned_abs d → IsDivision n d q r → fits q
  far_quotient_fits {q} far division =
      let size = unsigned_abs-mul q d in
      let small : unsigned_abs q ≤ unsigned_abs high = grind (arith, sizes, mul-le) in
      (range.between q).1 (grind (arith, sizes, products))

  -- a quotient that is not exact fits
  pub inexact_quotient_fits : {q r : ℤ} → IsDivision n d q r → r ≢ pos 0 → fits q
  inexact_quotient_fits division inexact = far_quotient_fits (omega (arith, sizes)) division

  -- by any number but 0 and -1 a quotient fits
  pub other_quotient_fits : {q r : ℤ} → d ≢ negsuc 0 → IsDivision n d q r → fits q
  other_quotient_fits {q} other division = grind (arith, zero_or_not, products, sizes, far_quotient_fits)

  -- so a quotient fits if the exact quotient does
  exact_or_fits : {q r : ℤ} → IsDivision n d q r → (r ≡ pos 0 → fits q) → fits q
  exact_or_fits {r = r} division where_exact = elim (zero_or_not r) [ inl exact ↦ where_exact exact | inr inexact ↦ inexact_quotient_fits division inexact ]

  pub truncated_fits : EachFits fits (IsQuotient IsFloored n d) → EachFits fits (IsQuotient IsTruncated n d)
  truncated_fits floored q h = exact_or_fits h.division.division (λ exact. floored q (record { remainder = _; division = floored_same h.division (inl exact) }))

  pub floored_fits : EachFits fits (IsQuotient IsCeiled n d) → EachFits fits (IsQuotient IsFloored n d)
  floored_fits ceiled q h = exact_or_fits h.division.division (λ exact. ceiled q (record { remainder = _; division = ceiled_exact h.division exact }))

-- a floored remainder lies between 0 and the divisor
pub floored_remainder_within : {n d q r : ℤ} → IsFloored n d q r → LiesWithin d r
floored_remainder_within h = grind (arith, sizes)

pub floored_remainder_fits : {fits : ℤ → Type 0} {low high : ℤ} {n d q r : ℤ} → IsRange fits low high → fits d → IsFloored n d q r → fits r
floored_remainder_fits range d_fits h = within_fits range d_fits (floored_remainder_within h)

-- ---- multiples next to a number

-- what is between a floored remainder and its divisor fits
pub gap_fits : {fits : ℤ → Type 0} {low high n d q r : ℤ} → IsRange fits low high → fits d → IsFloored n d q r → fits (d -ℤ r)
gap_fits range d_fits h = within_fits range d_fits (grind (arith, sizes))

pub next_above : {n d q r : ℤ} → IsFloored n d q r → r ≢ pos 0 → IsMultiple IsCeiled n d (n +ℤ (d -ℤ r))
next_above {q = q} h inexact = record {
  quotient = q +ℤ pos 1;
  is = record { remainder = _; division = ceiled_above h inexact };
  product = rw h.division.equation (simp expand (omega (arith, products)));
}

pub next_exact : {n d q r : ℤ} → IsFloored n d q r → r ≡ pos 0 → IsMultiple IsCeiled n d n
next_exact h exact = record { quotient = _; is = record { remainder = _; division = ceiled_exact h exact }; product = omega (arith, linear) }

pub previous : {n d q r : ℤ} → IsFloored n d q r → IsMultiple IsFloored n d (n -ℤ r)
previous h = record { quotient = _; is = record { remainder = _; division = h }; product = omega (arith, linear) }

-- a number has one multiple of a kind whose quotients are the only ones
pub only_multiple : {Kind : ℤ → ℤ → ℤ → ℤ → Type 0} {n d m : ℤ} → ((q r p s : ℤ) → Kind n d q r → Kind n d p s → (q ≡ p) × (r ≡ s))
    → IsMultiple Kind n d m → IsOnly (IsMultiple Kind n d) m
only_multiple only h k g = let same = only _ _ _ _ g.is.division h.is.division in cc

-- the next multiple of a negated divisor is the previous one of the divisor
pub negation_turns_multiples : (n d m : ℤ) → IsMultiple IsCeiled n (neg_ℤ d) m ↔ IsMultiple IsFloored n d m
negation_turns_multiples n d m = (
  λ h. let k = h.is.division in record { quotient = neg_ℤ h.quotient; is = record { remainder = h.is.remainder; division = grind (arith, products, sizes) }; product = grind (arith, products) },
  λ h. let k = h.is.division in record { quotient = neg_ℤ h.quotient; is = record { remainder = h.is.remainder; division = grind (arith, products, sizes) }; product = grind (arith, products) },
)
