-- Greatest common divisors and least common multiples.
use Rattle.std.specs.Prelude.{IfSome, IsSome, MatchOption}
use Rattle.integer_core.proofs.Common.{None, Option, Some, Width, ℕ, rules, ◌≡◌, ◌≢◌, ◌⊎◌, ◌<◌, ◌≤ℤ◌, ◌*ℤ◌, ◌↔◌, ℤ, pos, unsigned_abs, int_div, arith, inl, inr, subst, sym, ints, unsigned_abs-mul, linear, sizes, products, comm, left_comm, dist_left, Divides, IsGreatestCommonDivisor, IsLeastCommonMultiple, GcdFits, IsRange, EachFits}
pub use Rattle.integer_core.proofs.Divisibility.{Divides_trans, Divides_zero, Divides_antisym, magnitude_divides, divides_magnitude, Divides_sum, Divides_times, Divides_cancel, exact_quotient, divisor_size, only_gcd, gcd_swap, gcd_nonzero, gcd_positive, gcd_divisor, gcd_zero, gcd-remainder, zero_or_not, cancel, zero_divides, from_natural, to_natural, Divides-minus_one, divides_from_exact, exact_from_divides, mul-one}
pub use Rattle.integer_core.proofs.Ranges.{within_fits, lcm_is_magnitude, magnitude_by_distance}
use Rattle.integer_core.proofs.BezoutAnswers.{bezout_answer_exists}
use Rattle.integer_core.specs.NativeRanges.{IsNative}

-- ---- greatest common divisors

-- two numbers have that of their magnitudes
pub gcd-magnitudes : {a b m n g : ℤ} → m ≡ pos (unsigned_abs a) → n ≡ pos (unsigned_abs b) → IsGreatestCommonDivisor m n g → IsGreatestCommonDivisor a b g
gcd-magnitudes e f x = let y = rw (e, f) at x in search (rules, Divides_trans, magnitude_divides, divides_magnitude, y.greatest)

pub gcd_exists : (a b : ℤ) → (g : ℤ) × IsGreatestCommonDivisor a b g
gcd_exists a b = let h = bezout_answer_exists a b in (h.0, h.3.greatest)

-- what divides the same multiple of two numbers divides that multiple of their gcd
pub divides_multiple : {d a b g : ℤ} (k : ℤ) → IsGreatestCommonDivisor a b g → Divides d (k *ℤ a) → Divides d (k *ℤ b) → Divides d (k *ℤ g)
divides_multiple {a = a} {b = b} k x h m =
    let sum = bezout_answer_exists a b in
    rw (only_gcd x sum.3.greatest, ← sum.3.equation, dist_left, left_comm k sum.1 a, left_comm k sum.2 b) (Divides_sum sum.1 sum.2 h m)

-- a common factor comes out
pub gcd_times : {a b g : ℤ} (k : ℤ) → pos 0 ≤ℤ k → IsGreatestCommonDivisor a b g → IsGreatestCommonDivisor (k *ℤ a) (k *ℤ b) (k *ℤ g)
gcd_times {g = g} k up x = let from_zero : pos 0 ≤ℤ (k *ℤ g) = grind (arith, products) in search (rules, Divides_times, divides_multiple)

-- ---- least common multiples

-- the only one
pub only_lcm : {a b l m : ℤ} → IsLeastCommonMultiple a b l → IsLeastCommonMultiple a b m → l ≡ m
only_lcm x y = Divides_antisym x.from_zero y.from_zero (x.least _ y.left_divides y.right_divides) (y.least _ x.left_divides x.right_divides)

pub lcm_is_symmetric : (a b l : ℤ) → IsLeastCommonMultiple a b l → IsLeastCommonMultiple b a l
lcm_is_symmetric a b l x = record { from_zero = x.from_zero; left_divides = x.right_divides; right_divides = x.left_divides; least = λ m h k. x.least m k h }

-- the lcm with 0 is 0
pub lcm_zero : {a b : ℤ} → (a ≡ pos 0) ⊎ (b ≡ pos 0) → IsLeastCommonMultiple a b (pos 0)
lcm_zero with_zero = grind (arith, ints, Divides_zero)

-- a number that times the gcd is the magnitude of the product is the lcm
pub lcm-product : {a b g l : ℤ} → IsGreatestCommonDivisor a b g → b ≢ pos 0 → pos (unsigned_abs (a *ℤ b)) ≡ g *ℤ l → IsLeastCommonMultiple a b l
lcm-product {a} {b} {g} {l} x b_nonzero e =
    let nonzero = gcd_nonzero x b_nonzero in
    record {
      from_zero = grind (arith, products);
      left_divides = Divides_cancel g nonzero (rw (← e, comm g a) (Divides_trans (Divides_times a x.divides_right) (divides_magnitude _)));
      right_divides = Divides_cancel g nonzero (rw (← e, comm g b, comm a b) (Divides_trans (Divides_times b x.divides_left) (divides_magnitude _)));
      least = λ u h k.
          let multiple = divides_multiple {d = a *ℤ b} u x (rw (comm u a) (Divides_times a k)) (rw (comm u b, comm a b) (Divides_times b h)) in
          Divides_cancel g nonzero (rw (← e, comm g u) (Divides_trans (magnitude_divides _) multiple));
    }

-- computed on the magnitudes by a quotient
pub lcm-computed : {a b m n g q l : ℤ} → m ≡ pos (unsigned_abs a) → n ≡ pos (unsigned_abs b) → b ≢ pos 0 → IsGreatestCommonDivisor m n g
    → q ≡ int_div n g → l ≡ m *ℤ q → IsLeastCommonMultiple a b l
lcm-computed {a} {b} {m} {n} {g} {q} e f nonzero x u v =
    let exact : n ≡ g *ℤ q = rw u (exact_quotient (gcd_nonzero x (omega (arith, sizes))) x.divides_right) in
    lcm-product (gcd-magnitudes e f x) nonzero (rw (unsigned_abs-mul a b, v, left_comm g m q, ← exact, e, f))

-- of two numbers from 0 up
pub lcm-of-sizes : {a b g q l : ℤ} → pos 0 ≤ℤ a → pos 0 ≤ℤ b → 0 < unsigned_abs b → IsGreatestCommonDivisor a b g → q ≡ int_div b g → l ≡ a *ℤ q → IsLeastCommonMultiple a b l
lcm-of-sizes a_up b_up b_positive x u v = lcm-computed (omega (arith, sizes, a_up)) (omega (arith, sizes, b_up)) (omega (arith, sizes)) x u v

-- two numbers have that of their magnitudes
pub lcm-magnitudes : {a b m n l : ℤ} → m ≡ pos (unsigned_abs a) → n ≡ pos (unsigned_abs b) → IsLeastCommonMultiple m n l → IsLeastCommonMultiple a b l
lcm-magnitudes e f x = let y = rw (e, f) at x in search (rules, Divides_trans, magnitude_divides, divides_magnitude, y.least)

-- a product that fits or not, and is the lcm, says whether the lcm fits
pub lcm_told : {A : Type 0} (value : A → ℤ) (fits : ℤ → Type 0) {a b l : ℤ} (r : Option A) → IsLeastCommonMultiple a b l
    → MatchOption r (¬ (fits l)) (λ x. fits (value x) × (value x ≡ l))
    → MatchOption r (¬ (EachFits fits (IsLeastCommonMultiple a b))) (λ x. fits (value x) × IsLeastCommonMultiple a b (value x))
lcm_told value fits None is beyond = λ each. beyond (each _ is)
lcm_told value fits (Some x) is told = (told.0, rw told.1 is)

module _ {A : Type 0} (value : A → ℤ) {w : Width} {number : ℕ → ℤ} {fits wide : ℤ → Type 0} {low high a b m n : ℤ} (native : IsNative w number fits low high wide)
    (each : EachFits fits (IsLeastCommonMultiple a b)) (m_is : m ≡ pos (unsigned_abs a)) (n_is : n ≡ pos (unsigned_abs b)) where
  -- whether the lcm of the magnitudes fits, and which it is
  abbrev pub Told : Option A → Type 0
  Told r = MatchOption r (¬ (EachFits wide (IsLeastCommonMultiple m n))) (λ x. wide (value x) × IsLeastCommonMultiple m n (value x))

  -- two numbers whose lcm fits have that of their magnitudes, which is there
  pub lcm_is_there : (r : Option A) → Told r → IsSome r
  lcm_is_there None beyond = absurd (beyond (λ l h. lcm_is_magnitude native each (lcm-magnitudes m_is n_is h)))
  lcm_is_there (Some x) told = search rules

  pub lcm_there : {x : A} (r : Option A) → Told r → IfSome r (λ y. y ≡ x) → IsLeastCommonMultiple a b (value x)
  lcm_there None beyond is = absurd (beyond (λ l h. lcm_is_magnitude native each (lcm-magnitudes m_is n_is h)))
  lcm_there (Some y) told is = subst (λ z. IsLeastCommonMultiple a b (value z)) is (lcm-magnitudes m_is n_is told.1)

-- every pair has one, and times the gcd it is the magnitude of the product
lcm_of_gcd : {a b g : ℤ} → IsGreatestCommonDivisor a b g → (l : ℤ) × IsLeastCommonMultiple a b l × (g *ℤ l ≡ pos (unsigned_abs (a *ℤ b)))
lcm_of_gcd {a} {b} {g} x = elim (zero_or_not b) [
  | inl none ↦ (pos 0, lcm_zero (inr none), rw none (omega (arith, products, sizes)))
  | inr nonzero ↦
      let multiple = Divides_trans (record { factor = a; product = comm a b }) (divides_magnitude (a *ℤ b)) in
      let exact = Divides_trans x.divides_right multiple in
      (exact.factor, lcm-product x nonzero exact.product, sym exact.product)
]

pub lcm_exists : (a b : ℤ) → (l : ℤ) × IsLeastCommonMultiple a b l
lcm_exists a b = let h = lcm_of_gcd (gcd_exists a b).1 in (h.0, h.1)

pub gcd_mul_lcm : {a b g l : ℤ} → IsGreatestCommonDivisor a b g → IsLeastCommonMultiple a b l → g *ℤ l ≡ pos (unsigned_abs (a *ℤ b))
gcd_mul_lcm x y = let lcm = lcm_of_gcd x in rw (only_lcm y lcm.1) lcm.2

-- ---- when a greatest common divisor fits

module _ {fits : ℤ → Type 0} {low high : ℤ} (range : IsRange fits low high) where
  -- in a type without negative numbers each gcd fits
  unsigned_gcd_fits : {a b : ℤ} → low ≡ pos 0 → fits a → fits b → EachFits fits (IsGreatestCommonDivisor a b)
  unsigned_gcd_fits {a} {b} none a_fits b_fits g h = elim (zero_or_not b) [
    | inl b_zero ↦ within_fits range a_fits (grind (arith, sizes, only_gcd (rw b_zero at h) (gcd_zero a), (range.between a).0 a_fits))
    | inr nonzero ↦ within_fits range b_fits (grind (arith, sizes, divisor_size h.divides_right nonzero, (range.between b).0 b_fits))
  ]

  pub gcd_fits_is : {a b : ℤ} → fits a → fits b → GcdFits fits a b ↔ EachFits fits (IsGreatestCommonDivisor a b)
  gcd_fits_is a_fits b_fits = (
    λ h. elim (zero_or_not low) [ inl none ↦ unsigned_gcd_fits none a_fits b_fits | inr signed ↦ h ((range.between _).1 (grind (arith, linear))) ],
    λ h _. h,
  )
