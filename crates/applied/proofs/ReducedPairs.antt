-- Greatest common divisors up to their sign, and pairs of numbers divided by their greatest common divisor.
use Rattle.num_integer.proofs.ForCallers.{cancel, coprime_divides, divided_by_gcd, divides_magnitude, divisor_size, exact_quotient, factor_positive, magnitude_divides, mul_neg, natural_exact_quotient, natural_gcd_positive, natural_quotients_coprime, one_fits, product_positive}
use Rattle.applied.specs.ReducedPairs.{HasSignOf, IsReducedPair}
use Rattle.applied.proofs.Common.{◌≡◌, ◌≢◌, ◌≤ℤ◌, ◌<ℤ◌, ◌-ℤ◌, ◌*ℤ◌, ◌<◌, ◌*◌, ◌/◌, ℤ, pos, negsuc, neg_ℤ, unsigned_abs, int_div, ◌∙◌, arith, inl, inr, refl, subst, sym, cases_lt, by_lt_z, Divides, IsGreatestCommonDivisor, EachFits, IsRange, Divides_trans, expand, gcd_swap, linear, only_gcd, other_quotient_fits, product_from_zero, products, sizes, truncated_is, within_fits, gcd_exists, ℕ, ap, Divides_antisym, comm, zero_divides, zero_or_not, ReducedPairIsOnly}

-- the first number may be its magnitude
pub gcd_with_magnitude : {a b g : ℤ} → IsGreatestCommonDivisor a b g → IsGreatestCommonDivisor (pos (unsigned_abs a)) b g
gcd_with_magnitude {a} h = record {
  from_zero = h.from_zero;
  divides_left = Divides_trans h.divides_left (divides_magnitude a);
  divides_right = h.divides_right;
  greatest = λ d left right. h.greatest d (Divides_trans left (magnitude_divides a)) right;
}

-- ---- the divisor that `signed_gcd` returns

module _ {fits : ℤ → Type 0} {low high a b : ℤ} (range : IsRange fits low high) (none : ¬ (EachFits fits (IsGreatestCommonDivisor a b))) where
  -- if the divisor does not fit, it is the magnitude of each of the two numbers that is not 0
  pub unfit_gcd : fits a → a ≢ pos 0 → IsGreatestCommonDivisor a b (pos (unsigned_abs a))
  unfit_gcd a_fits nonzero =
      let own = gcd_exists a b in
      let size = divisor_size own.1.divides_left nonzero in
      elim (cases_lt (unsigned_abs own.0) (unsigned_abs a)) [
        | inl less ↦
            let own_fits : fits own.0 = (range.between own.0).1 (omega (sizes, range.low_end, (range.between a).0 a_fits, own.1.from_zero)) in
            absurd (none (λ z is. subst fits (only_gcd own.1 is) own_fits))
        | inr most ↦
            let same : own.0 ≡ pos (unsigned_abs a) = omega (sizes, own.1.from_zero) in
            subst (IsGreatestCommonDivisor a b) same own.1
      ]

  -- so it is not 1
  pub unfit_is_other : (d : ℤ) → IsGreatestCommonDivisor a b (pos (unsigned_abs d)) → d ≢ negsuc 0
  unfit_is_other d is minus_one = none (λ z other. rw (sym (only_gcd is other), minus_one) (one_fits range))

-- ---- quotients by a magnitude

-- each part of a number fits
part_fits : {fits : ℤ → Type 0} {low high n g part : ℤ} → IsRange fits low high → fits n → pos 0 <ℤ g → n ≡ g *ℤ part → fits part
part_fits {g = g} {part = part} range n_fits up is = within_fits range n_fits (by_lt_z part (pos 0)
    (λ down. let more = simp expand at (product_from_zero (g -ℤ pos 1) (pos 0 -ℤ part) (omega linear) (omega linear)) in inr (omega products, omega linear))
    (λ fine. let more = simp expand at (product_from_zero (g -ℤ pos 1) part (omega linear) fine) in inl (fine, omega products)))

module _ {n d : ℤ} (nonzero : d ≢ pos 0) (divides : Divides (pos (unsigned_abs d)) n) where
  -- the quotient is exact
  exact : n ≡ d *ℤ int_div n d
  exact = exact_quotient nonzero (Divides_trans (divides_magnitude d) divides)

  pub part_by_positive : pos 0 ≤ℤ d → n ≡ pos (unsigned_abs d) *ℤ int_div n d
  part_by_positive up = grind (sizes, exact)

  pub part_by_negative : d <ℤ pos 0 → n ≡ pos (unsigned_abs d) *ℤ neg_ℤ (int_div n d)
  part_by_negative below = grind (sizes, exact, expand, products)

  pub part_by_negative_fits : {fits : ℤ → Type 0} {low high : ℤ} → IsRange fits low high → fits n → d <ℤ pos 0 → fits (neg_ℤ (int_div n d))
  part_by_negative_fits range n_fits below = part_fits {g = pos (unsigned_abs d)} range n_fits (omega sizes) (part_by_negative below)

  pub operator_fits : {fits : ℤ → Type 0} {low high : ℤ} → IsRange fits low high → fits n → fits d → d ≢ negsuc 0 → fits (int_div n d)
  operator_fits range n_fits d_fits other = other_quotient_fits range n_fits d_fits other (truncated_is n d nonzero).division

-- ---- the pair that `reduced` returns

-- the pair of 0 and 0 stays
pub reduced_zeros : {a b : ℤ} → a ≡ pos 0 → b ≡ pos 0 → IsReducedPair a b a b
reduced_zeros {a} {b} a_zero b_zero = grind arith

-- a positive factor keeps the sign
sign_of_part : {a g x : ℤ} → pos 0 <ℤ g → a ≡ g *ℤ x → HasSignOf a x
sign_of_part {a} {g} {x} up is = grind (arith, neg_ℤ, mul_neg, product_positive, factor_positive, linear)

-- the parts of two numbers by their positive gcd
pub reduced_by_gcd : {a b g x y : ℤ} → pos 0 <ℤ g → IsGreatestCommonDivisor a b g → a ≡ g *ℤ x → b ≡ g *ℤ y → IsReducedPair a b x y
reduced_by_gcd {a} {b} {g} {x} {y} up h first second =
    let times : IsGreatestCommonDivisor (g *ℤ x) (g *ℤ y) g = rw (← first, ← second) h in
    record {
      ratio = rw (first, second) (simp expand);
      first_sign = sign_of_part up first;
      second_sign = sign_of_part up second;
      coprime = λ _. divided_by_gcd (λ none. omega linear) times;
    }

-- each pair of numbers has a reduced pair
pub reduced_pair_exists : (a b : ℤ) → (x y : ℤ) × IsReducedPair a b x y
reduced_pair_exists a b =
    let own = gcd_exists a b in
    elim (zero_or_not own.0) [
      | inl none ↦ (a, b, reduced_zeros (zero_divides (rw none at own.1.divides_left)) (zero_divides (rw none at own.1.divides_right)))
      | inr nonzero ↦
          let up : pos 0 <ℤ own.0 = omega (linear, own.1.from_zero) in
          (own.1.divides_left.factor, own.1.divides_right.factor, reduced_by_gcd up own.1 own.1.divides_left.product own.1.divides_right.product)
    ]

-- ---- there is only one reduced pair

-- only 0 has the sign of 0
zero_of_zero : {a x : ℤ} → HasSignOf a x → a ≡ pos 0 → x ≡ pos 0
zero_of_zero {a} {x} h none = grind (linear, h.positive.0, h.negative.0)

-- numbers of one sign that divide each other are equal
same_of_sign : {a x u : ℤ} → HasSignOf a x → HasSignOf a u → Divides x u → Divides u x → u ≡ x
same_of_sign {a} {x} {u} h k there back =
    let on = Divides_trans (magnitude_divides x) (Divides_trans there (divides_magnitude u)) in
    let off = Divides_trans (magnitude_divides u) (Divides_trans back (divides_magnitude x)) in
    let size = Divides_antisym (omega linear) (omega linear) on off in
    grind (sizes, h.positive, h.negative, k.positive, k.negative)

first_is_only : {a b x y u v : ℤ} → IsReducedPair a b x y → IsReducedPair a b u v → u ≡ x
first_is_only {a} {b} {x} {y} {u} {v} h k = elim (zero_or_not a) [
  | inl none ↦ zero_of_zero k.first_sign none ∙ sym (zero_of_zero h.first_sign none)
  | inr some ↦
      let first = simp expand at (ap (λ (t : ℤ). t *ℤ u) h.ratio) in
      let cross : x *ℤ v ≡ y *ℤ u = cancel a (x *ℤ v) (y *ℤ u) some (omega (linear, simp expand at (ap (λ (t : ℤ). x *ℤ t) k.ratio))) in
      same_of_sign h.first_sign k.first_sign (coprime_divides (gcd_swap (h.coprime (inl some))) (record { factor = v; product = sym cross }))
      (coprime_divides (gcd_swap (k.coprime (inl some))) (record { factor = y; product = comm v x ∙ cross ∙ comm y u }))
]

swapped : {a b x y : ℤ} → IsReducedPair a b x y → IsReducedPair b a y x
swapped h = record {
  ratio = sym h.ratio;
  first_sign = h.second_sign;
  second_sign = h.first_sign;
  coprime = λ other. gcd_swap (h.coprime (elim other [ inl b_other ↦ inr b_other | inr a_other ↦ inl a_other ]));
}

pub reduced_pair_is_only : ReducedPairIsOnly
reduced_pair_is_only = λ a b x y h. λ (u, v) k. rw (first_is_only h k, first_is_only (swapped h) (swapped k)) refl

-- ---- for callers

cross : (w h g x y : ℕ) → g * x ≡ w → g * y ≡ h → w * y ≡ h * x
cross w h g x y first second = rw (← first, ← second) (omega arith)

-- two natural numbers divided by their gcd, the second of which is not 0, are coprime and in the same ratio
pub reduced_pair : {w h g : ℕ} → 0 < h → IsGreatestCommonDivisor (pos w) (pos h) (pos g)
    → IsGreatestCommonDivisor (pos (w / g)) (pos (h / g)) (pos 1) × (w * (h / g) ≡ h * (w / g))
reduced_pair {w} {h} {g} up is =
    let positive = natural_gcd_positive up is in (
      natural_quotients_coprime positive is,
      cross w h g (w / g) (h / g) (natural_exact_quotient positive is.divides_left) (natural_exact_quotient positive is.divides_right),
    )
