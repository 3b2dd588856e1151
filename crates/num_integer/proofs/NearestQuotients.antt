-- Quotients rounded to the nearest integer: from those rounded down, the only ones, and when they fit.
use Rattle.num_integer.proofs.Common.{◌≡◌, ◌≢◌, ◌⊎◌, ◌↔◌, ◌<◌, ◌≤◌, ◌≤ℤ◌, ◌+◌, ◌*◌, ◌<ℤ◌, ◌+ℤ◌, ◌-ℤ◌, ◌*ℤ◌, IsTrue, floored, Bool, true, false, not, signed, ℕ, ℤ, pos, neg_ℤ, unsigned_abs, arith, inl, inr, le_refl, refl, subst, cases_lt, unsigned_abs-mul, IsDivision, IsFloored, IsQuotient, EachFits, IsRange, expand, from_not_less, linear, other_quotient_fits, products, sizes, zero_or_not}
use Rattle.std.proofs.Math.Bool.{beq}
use Rattle.std.proofs.lemmas.Int.{by_lt_z}
use Rattle.std.proofs.lemmas.Nat.{mul-le}
use Rattle.integer_core.proofs.Divisibility.{divides_or_not}
use Rattle.integer_core.proofs.Quotients.{division_exists}
use Rattle.integer_core.specs.Divisors.{IsEven}
use Rattle.num_integer.proofs.FittingAnswers.{IsKind}
use Rattle.num_integer.proofs.Multiples.{even_or_next, not_both_even}
use Rattle.num_integer.specs.Laws.{NearestEvenQuotientIsOnly, NearestQuotientExists, NearestQuotientFitsExactly, NearestQuotientIsOnly, NoIntegerIsNearer}
use Rattle.num_integer.specs.Rounding.{IsDown, IsNearer, IsNearest, IsNearestEven, LiesWithin}

next_product : (q d : ℤ) → (q +ℤ pos 1) *ℤ d ≡ q *ℤ d +ℤ d
next_product q d = simp expand (omega (arith, products))

-- ---- remainders that are half of the divisor

-- with the sign of the divisor, the product is farther from 0 than the number exactly if the quotient is negative
half_up : {n d q r : ℤ} → IsDivision n d q r → d ≡ r +ℤ r → (unsigned_abs n < unsigned_abs (q *ℤ d)) ↔ (q <ℤ pos 0)
half_up {n} {d} {q} {r} h half = grind (arith, products)

-- with the other sign, exactly if it is positive
half_down : {n d q r : ℤ} → IsDivision n d q r → d ≡ neg_ℤ (r +ℤ r) → (unsigned_abs n < unsigned_abs (q *ℤ d)) ↔ (pos 0 <ℤ q)
half_down {n} {d} {q} {r} h half =
    let same : neg_ℤ q *ℤ neg_ℤ d ≡ q *ℤ d = grind (arith, products) in
    grind arith

-- ---- from the quotient rounded down to the nearest

-- what is missing to the divisor lies between 0 and the divisor, as the remainder does
pub missing_within : (d r : ℤ) → LiesWithin d r → LiesWithin d (d -ℤ r)
missing_within d r (inl up) = inl (omega (arith, linear, up.1), omega (arith, linear, up.0))
missing_within d r (inr down) = inr (omega (arith, linear, down.1), omega (arith, linear, down.0))

module _ {n d q r : ℤ} (h : IsFloored n d q r) (A : Type 0) where
  -- the next quotient, if the quotient rounded down is not the nearer one
  next_near : ¬ (IsDown A d r) → IsDivision n d (q +ℤ pos 1) (r -ℤ d) × (2 * unsigned_abs (r -ℤ d) ≤ unsigned_abs d) × (2 * unsigned_abs (r -ℤ d) ≡ unsigned_abs d → (2 * unsigned_abs r ≡ unsigned_abs d) × (¬ A))
  next_near none =
      let large : unsigned_abs d ≤ 2 * unsigned_abs r = elim (cases_lt (2 * unsigned_abs r) (unsigned_abs d)) [ inl less ↦ absurd (none (inl less)) | inr most ↦ most ] in
      let size : unsigned_abs (r -ℤ d) + unsigned_abs r ≡ unsigned_abs d = omega (arith, sizes, h.division.small) in (
        record { equation = omega (arith, linear, h.division.equation, next_product q d); small = omega (arith, sizes) },
        omega arith,
        λ half. let same : 2 * unsigned_abs r ≡ unsigned_abs d = omega arith in (same, λ a. none (inr (same, a))),
      )

  pub next_fits : {fits : ℤ → Type 0} {low high : ℤ} → IsRange fits low high → fits n → fits d → ¬ (IsDown A d r) → fits (q +ℤ pos 1)
  next_fits range n_fits d_fits none =
      let next = next_near none in
      other_quotient_fits range n_fits d_fits (λ e. omega (arith, sizes, next.1)) next.0

  -- the nearer quotient leaves at most half of the divisor, and a half only where the tie P allows it
  nearer_is : (P : ℤ → Type 0) (z : ℤ) → (d ≡ r +ℤ r → A → P q)
      → (IsDivision n d (q +ℤ pos 1) (r -ℤ d) → d ≡ neg_ℤ ((r -ℤ d) +ℤ (r -ℤ d)) → ¬ A → P (q +ℤ pos 1))
      → IsNearer A d q r z → (s : ℤ) × IsDivision n d z s × (2 * unsigned_abs s ≤ unsigned_abs d) × (2 * unsigned_abs s ≡ unsigned_abs d → P z)
  nearer_is P z down up (inl (inl less, is)) = rw is (r, h.division, omega arith, λ half. absurd (omega arith))
  nearer_is P z down up (inl (inr (same, a), is)) = rw is (r, h.division, omega arith, λ half. down (omega (arith, sizes)) a)
  nearer_is P z down up (inr (none, is)) = grind (arith, next_near)

  pub nearest_is : {z : ℤ} → A ↔ (q <ℤ pos 0) → IsNearer A d q r z → IsQuotient IsNearest n d z
  nearest_is {z} below nearer =
      let k = nearer_is (λ p. unsigned_abs n < unsigned_abs (p *ℤ d)) z (λ half a. (half_up h.division half).1 (below.0 a))
      (λ next half none.
      let up : pos 0 ≤ℤ q = from_not_less (λ less. none (below.1 less)) in
      (half_down next half).1 (omega (arith, linear))) nearer in
      record { remainder = k.0; division = record { division = k.1; nearest = k.2; tie = k.3 } }

  pub nearest_even_is : {z : ℤ} → A ↔ IsEven q → IsNearer A d q r z → IsQuotient IsNearestEven n d z
  nearest_even_is {z} even nearer =
      let k = nearer_is IsEven z (λ _. even.0) (λ _ _ none. even_or_next q (λ own. none (even.1 own))) nearer in
      record { remainder = k.0; division = record { division = k.1; nearest = k.2; tie = k.3 } }

-- ---- the only ones

-- of two different quotients that leave at most half of the divisor, each leaves half, and one is the next of the other
halves : {n d q r p s : ℤ} → IsDivision n d q r → 2 * unsigned_abs r ≤ unsigned_abs d → IsDivision n d p s → 2 * unsigned_abs s ≤ unsigned_abs d
    → q <ℤ p → (p ≡ q +ℤ pos 1) × (d ≡ r +ℤ r) × (d ≡ neg_ℤ (s +ℤ s))
halves {n} {d} {q} {r} {p} {s} h near k other_near less =
    let spread : (p -ℤ q) *ℤ d ≡ p *ℤ d -ℤ q *ℤ d = simp expand (omega (arith, products)) in
    let apart : (p -ℤ q) *ℤ d ≡ r -ℤ s = omega (arith, linear, h.equation, k.equation) in
    let size = rw apart at (unsigned_abs-mul (p -ℤ q) d) in
    let one : p ≡ q +ℤ pos 1 = by_lt_z (q +ℤ pos 1) p
    (λ far.
    let twice = mul-le 2 (unsigned_abs d) (unsigned_abs (p -ℤ q)) (unsigned_abs d) (omega (arith, sizes)) (le_refl (unsigned_abs d)) in
    absurd (omega (arith, sizes, h.small)))
    (λ fine. omega (arith, linear)) in
    let product : p *ℤ d ≡ q *ℤ d +ℤ d = rw one (next_product q d) in
    (one, omega (arith, sizes, h.equation, k.equation), omega (arith, sizes, h.equation, k.equation))

not_less_nearest : {n d q r p s : ℤ} → IsNearest n d q r → IsNearest n d p s → ¬ (q <ℤ p)
not_less_nearest x y less =
    let both = halves x.division x.nearest y.division y.nearest less in
    let first = (half_up x.division both.1).0 (x.tie (omega (arith, sizes, both.1))) in
    omega (arith, linear, both.0, (half_down y.division both.2).0 (y.tie (omega (arith, sizes, both.2))))

not_less_even : {n d q r p s : ℤ} → IsNearestEven n d q r → IsNearestEven n d p s → ¬ (q <ℤ p)
not_less_even x y less =
    let both = halves x.division x.nearest y.division y.nearest less in
    not_both_even both.0 (x.tie (omega (arith, sizes, both.1))) (y.tie (omega (arith, sizes, both.2)))

-- so is the remainder, which makes both kinds a kind of division
same_remainder : {n d q r p s : ℤ} → IsDivision n d q r → IsDivision n d p s → q ≡ p → (q ≡ p) × (r ≡ s)
same_remainder h k same = let equation = rw same at h.equation in (same, omega (arith, linear, equation, k.equation))

nearest_kind : IsKind IsNearest
nearest_kind = record {
  division = λ h. h.division;
  only = λ h k. same_remainder h.division k.division (omega (arith, linear, from_not_less (not_less_nearest h k), from_not_less (not_less_nearest k h)));
  exact = λ h. record { division = h; nearest = omega (arith, sizes); tie = λ half. absurd (omega (arith, sizes, h.small)) };
}

nearest_even_kind : IsKind IsNearestEven
nearest_even_kind = record {
  division = λ h. h.division;
  only = λ h k. same_remainder h.division k.division (omega (arith, linear, from_not_less (not_less_even h k), from_not_less (not_less_even k h)));
  exact = λ h. record { division = h; nearest = omega (arith, sizes); tie = λ half. absurd (omega (arith, sizes, h.small)) };
}

pub nearest_quotient_is_only : NearestQuotientIsOnly
nearest_quotient_is_only = λ n d q h other k. (nearest_kind.only k.division h.division).0

pub nearest_even_quotient_is_only : NearestEvenQuotientIsOnly
nearest_even_quotient_is_only = λ n d q h other k. (nearest_even_kind.only k.division h.division).0

-- ---- no integer is nearer

no_nearer : {n d q r : ℤ} (m : ℤ) → IsDivision n d q r → 2 * unsigned_abs r ≤ unsigned_abs d → unsigned_abs (n -ℤ q *ℤ d) ≤ unsigned_abs (n -ℤ m *ℤ d)
no_nearer {n} {d} {q} {r} m h near = elim (zero_or_not (q -ℤ m)) [
  | inl none ↦ let same : q ≡ m = omega (arith, linear) in rw same (omega arith)
  | inr other ↦
      let apart : (q -ℤ m) *ℤ d ≡ q *ℤ d -ℤ m *ℤ d = simp expand (omega (arith, products)) in
      let size = rw apart at (unsigned_abs-mul (q -ℤ m) d) in
      let once = mul-le 1 (unsigned_abs d) (unsigned_abs (q -ℤ m)) (unsigned_abs d) (omega (arith, sizes)) (le_refl (unsigned_abs d)) in
      omega (arith, sizes, h.equation)
]

pub no_integer_is_nearer : NoIntegerIsNearer
no_integer_is_nearer = λ n d q kinds m. elim kinds [
  | inl h ↦ no_nearer m h.division.division h.division.nearest
  | inr h ↦ no_nearer m h.division.division h.division.nearest
]

-- ---- they exist

nearer_exists : (A : Type 0) (d q r : ℤ) → A ⊎ (¬ A) → (z : ℤ) × IsNearer A d q r z
nearer_exists A d q r choice =
    let down : IsDown A d r ⊎ (¬ (IsDown A d r)) = grind arith in
    elim down [ inl is ↦ (q, inl (is, refl)) | inr none ↦ (q +ℤ pos 1, inr (none, refl)) ]

pub nearest_quotient_exists : NearestQuotientExists
nearest_quotient_exists = λ n d nonzero.
    let h = division_exists.1 n d nonzero in
    let below : (h.0 <ℤ pos 0) ⊎ (¬ (h.0 <ℤ pos 0)) = by_lt_z h.0 (pos 0) (λ less. inl less) (λ up. inr (λ less. omega (arith, linear))) in
    let first = nearer_exists (h.0 <ℤ pos 0) d h.0 h.1 below in
    let second = nearer_exists (IsEven h.0) d h.0 h.1 (divides_or_not (pos 2) h.0 (λ e. omega (arith, linear))) in
    ((first.0, nearest_is h.2 (h.0 <ℤ pos 0) (λ a. a, λ a. a) first.1), (second.0, nearest_even_is h.2 (IsEven h.0) (λ a. a, λ a. a) second.1))

-- ---- by magnitudes

-- a kind of division with the sign of the quotient turned if that of the number or of the divisor is
pub record IsRounding (Kind : ℤ → ℤ → ℤ → ℤ → Type 0) : Type 0 where
  pub kind : IsKind Kind
  pub number : (n d q r : ℤ) → Kind n d q r → Kind (neg_ℤ n) d (neg_ℤ q) (neg_ℤ r)
  pub divisor : (n d q r : ℤ) → Kind n d q r → Kind n (neg_ℤ d) (neg_ℤ q) r

negated_number : {n d q r : ℤ} → IsDivision n d q r → IsDivision (neg_ℤ n) d (neg_ℤ q) (neg_ℤ r) × (neg_ℤ q *ℤ d ≡ neg_ℤ (q *ℤ d))
negated_number {n} {d} {q} {r} h = grind arith

negated_divisor : {n d q r : ℤ} → IsDivision n d q r → IsDivision n (neg_ℤ d) (neg_ℤ q) r × (neg_ℤ q *ℤ neg_ℤ d ≡ q *ℤ d)
negated_divisor {n} {d} {q} {r} h = grind arith

negated_even : {q : ℤ} → IsEven q → IsEven (neg_ℤ q)
negated_even even = let half = even.product in record { factor = neg_ℤ even.factor; product = omega (arith, products) }

pub nearest : IsRounding IsNearest
nearest = record {
  kind = nearest_kind;
  number = λ n d q r h.
      let turned = negated_number h.division in
      record { division = turned.0; nearest = omega (arith, sizes); tie = λ half. rw turned.1 (omega (arith, sizes, h.tie (omega (arith, sizes)))) };
  divisor = λ n d q r h.
      let turned = negated_divisor h.division in
      record { division = turned.0; nearest = omega (arith, sizes); tie = λ half. rw turned.1 (h.tie (omega (arith, sizes))) };
}

pub nearest_even : IsRounding IsNearestEven
nearest_even = record {
  kind = nearest_even_kind;
  number = λ n d q r h.
      record { division = (negated_number h.division).0; nearest = omega (arith, sizes); tie = λ half. negated_even (h.tie (omega (arith, sizes))) };
  divisor = λ n d q r h.
      record { division = (negated_divisor h.division).0; nearest = omega (arith, sizes); tie = λ half. negated_even (h.tie (omega (arith, sizes))) };
}

-- the quotient of the magnitudes, with the sign of the quotient, is that of the numbers
pub quotient_by_magnitudes : {Kind : ℤ → ℤ → ℤ → ℤ → Type 0} → IsRounding Kind → (s u : Bool) (m e q : ℕ) → IsQuotient Kind (pos m) (pos e) (pos q)
    → IsQuotient Kind (signed s m) (signed u e) (signed (not (beq s u)) q)
quotient_by_magnitudes rounding false false m e q h = h
quotient_by_magnitudes rounding true false m e q h = record { remainder = _; division = rounding.number _ _ _ _ h.division }
quotient_by_magnitudes rounding false true m e q h = record { remainder = _; division = rounding.divisor _ _ _ _ h.division }
quotient_by_magnitudes rounding true true m e q h = grind arith

-- a divisor other than 0 has a magnitude other than 0
pub magnitude_nonzero : (u : Bool) (e : ℕ) → signed u e ≢ pos 0 → pos e ≢ pos 0
magnitude_nonzero true e nonzero = λ none. nonzero (omega (arith, linear))
magnitude_nonzero false e nonzero = nonzero

-- ---- when they fit

module _ {fits : ℤ → Type 0} {low high n d : ℤ} (range : IsRange fits low high) (n_fits : fits n) (d_fits : fits d) where
  -- if the exact quotients of a kind fit, each quotient does
  each_quotient_fits : {Kind : ℤ → ℤ → ℤ → ℤ → Type 0} → IsKind Kind → EachFits fits (IsQuotient Kind n d) → {q r : ℤ} → IsDivision n d q r → fits q
  each_quotient_fits kind each {q} {r} h = elim (zero_or_not (d +ℤ pos 1)) [
    | inl minus ↦
        let none : r ≡ pos 0 = omega (arith, sizes) in
        each q (record { remainder = pos 0; division = kind.exact (subst (IsDivision n d q) none h) })
    | inr other ↦ other_quotient_fits range n_fits d_fits (λ e. other (omega (arith, sizes))) h
  ]

  -- so the quotients of one kind fit exactly if those of another do
  pub same_fit : {Kind Other : ℤ → ℤ → ℤ → ℤ → Type 0} → IsKind Kind → IsKind Other
      → EachFits fits (IsQuotient Kind n d) ↔ EachFits fits (IsQuotient Other n d)
  same_fit kind other = (λ each q h. each_quotient_fits kind each (other.division h.division), λ each q h. each_quotient_fits other each (kind.division h.division))

-- the test whether the quotient rounded down fits is that whether the nearest one does
pub test_of_nearest : {Kind : ℤ → ℤ → ℤ → ℤ → Type 0} → IsRounding Kind
    → {fits : ℤ → Type 0} {low high n d : ℤ} {test : Bool} → IsRange fits low high → fits n → fits d
    → IsTrue test ↔ ((d ≢ pos 0) × EachFits fits (IsQuotient IsFloored n d))
    → IsTrue test ↔ ((d ≢ pos 0) × EachFits fits (IsQuotient Kind n d))
test_of_nearest rounding range n_fits d_fits test =
    let same = same_fit range n_fits d_fits floored rounding.kind in
    (λ t. let domain = test.0 t in (domain.0, same.0 domain.1), λ domain. test.1 (domain.0, same.1 domain.1))

pub nearest_quotient_fits_exactly : (fits : ℤ → Type 0) → NearestQuotientFitsExactly fits
nearest_quotient_fits_exactly fits = λ low high n d range n_fits d_fits. (same_fit range n_fits d_fits floored nearest_kind, same_fit range n_fits d_fits floored nearest_even_kind)
