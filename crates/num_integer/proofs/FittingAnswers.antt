-- When the results of calls fit, in the words of the tests of `Fits`.
use Rattle.integer_core.proofs.Common.{◌≡◌, ◌≢◌, ◌↔◌, ◌≤◌, ◌<◌, ◌^◌, ◌≤ℤ◌, ◌⊎◌, ◌<ℤ◌, ◌+ℤ◌, ℕ, ℤ, pos, IsTrue, nat_le, negsuc, neg_ℤ, unsigned_abs, Bool, true, false, not, min, max, arith, inl, inr, subst, refl, sym, ap, ◌∙◌, pow-le-pow_right, lt_of_not-le, le-leb, leb-true, ints, abs_is, linear, sizes, IsQuotient, IsMultiple, GcdFits, IsGreatestCommonDivisor, IsLeastCommonMultiple, IsRange, EachFits}
use Rattle.std.proofs.Math.Nat.{le_of_suc-le-suc}
use Rattle.std.specs.Int.{FitsUnsignedBits}
use Rattle.integer_core.proofs.CommonDivisors.{gcd_divisor, only_gcd, gcd_zero, gcd_swap, lcm-magnitudes, only_lcm, gcd_fits_is}
use Rattle.integer_core.proofs.Divisibility.{Divides_refl, abs_zero, divisor_size}
use Rattle.integer_core.proofs.Quotients.{only_multiple, floored_by_minus_one, other_quotient_fits}
use Rattle.integer_core.proofs.Ranges.{within_fits}
use Rattle.num_integer.specs.Parts.{IsWithin, signed}
pub use Rattle.integer_core.proofs.DivisionKinds.{IsKind, floored, ceiled, each_kind}
pub use Rattle.integer_core.proofs.Whole.{from_test}

-- ---- what fits a lawful type

-- a number that is not negative fits exactly if it is at most the largest
pub fits_up : {fits : ℤ → Type 0} {low high : ℤ} {most z : ℕ} → IsRange fits low high → pos most ≡ high → z ≤ most ↔ fits (pos z)
fits_up {z = z} range top = (λ h. (range.between (pos z)).1 (omega (arith, linear), omega (arith, ints)), λ h. omega (arith, ints, (range.between (pos z)).0 h))

pub test_up : {fits : ℤ → Type 0} {low high : ℤ} {most z : ℕ} → IsRange fits low high → pos most ≡ high → IsTrue (nat_le z most) ↔ fits (pos z)
test_up range top = (λ t. (fits_up range top).0 (leb-true _ _ t), λ f. le-leb _ _ ((fits_up range top).1 f))

-- a number fits if it is not negative and at most one that fits
pub fits_below : {fits : ℤ → Type 0} {low high x y : ℤ} → IsRange fits low high → fits y → pos 0 ≤ℤ x → x ≤ℤ y → fits x
fits_below range h up below = within_fits range h (inl (up, below))

-- a number that is not negative and below 2^128 fits in 128 bits
fits_128_bits : {z : ℤ} → pos 0 ≤ℤ z → z <ℤ pos (2 ^ 128) → FitsUnsignedBits 128 z
fits_128_bits {z = pos n} up below = omega (arith, ints)
fits_128_bits {z = negsuc n} up below = absurd (omega (arith, ints))

-- if a relation has one number alone, each number of it fits exactly if that one does
pub each_fits : {fits P : ℤ → Type 0} {x : ℤ} {A : Type 0} → P x → ((y : ℤ) → P y → x ≡ y) → A ↔ fits x → A ↔ EachFits fits P
each_fits {fits} own only test = (λ t y h. subst fits (only y h) (test.0 t), λ each. test.1 (each _ own))

-- the same by a divisor that is not 0
pub each_fits_by : {fits P : ℤ → Type 0} {x d : ℤ} {A : Type 0} → d ≢ pos 0 → P x → ((y : ℤ) → P y → x ≡ y)
    → A ↔ fits x → A ↔ ((d ≢ pos 0) × EachFits fits P)
each_fits_by {fits} {P} nonzero own only test = let each = each_fits {fits = fits} {P = P} own only test in (λ t. (nonzero, each.0 t), λ domain. each.1 domain.1)

-- a power of two that fits has fewer than 128 twos
pub few_bits : {fits : ℤ → Type 0} {low high : ℤ} (t c : ℕ) → IsRange fits low high → fits (pos c) → 2 ^ t ≤ c → t < 128
few_bits t c range h power = lt_of_not-le (λ many. omega (arith, ints, (range.between (pos c)).0 h, pow-le-pow_right {n = 2} (omega arith) many))

-- the test whether the gcd fits is that of the condition of the call
pub gcd_domain : {fits : ℤ → Type 0} {low high a b : ℤ} {answer : Bool} → IsRange fits low high → fits a → fits b
    → IsTrue answer ↔ EachFits fits (IsGreatestCommonDivisor a b) → IsTrue answer ↔ GcdFits fits a b
gcd_domain range a_fits b_fits test = let same = gcd_fits_is range a_fits b_fits in (λ t. same.1 (test.0 t), λ domain. test.1 (same.0 domain))

-- ---- when the quotient of a division fits, of any kind

module _ {fits : ℤ → Type 0} {low high n d : ℤ} {Kind : ℤ → ℤ → ℤ → ℤ → Type 0} (kind : IsKind Kind) (range : IsRange fits low high) (n_fits : fits n) (d_fits : fits d) where
  pub by_minus_one : (magnitude top : ℕ) → d ≡ negsuc 0 → magnitude ≡ unsigned_abs n → pos top ≡ high
      → IsTrue (nat_le magnitude top) ↔ ((d ≢ pos 0) × EachFits fits (IsQuotient Kind n d))
  by_minus_one magnitude top minus size ends =
      let n_in = (range.between n).0 n_fits in
      let d_in = (range.between d).0 d_fits in
      let own = kind.exact (floored_by_minus_one n d minus).division in
      each_fits_by (λ zero. absurd (omega (arith, ints))) (record { remainder = pos 0; division = own }) (λ q h. (kind.only own h.division).0) (
        λ h. let small = leb-true magnitude top h in (range.between (neg_ℤ n)).1 (omega (arith, linear, abs_is), omega (arith, linear, abs_is)),
        λ f. let inside = (range.between (neg_ℤ n)).0 f in le-leb magnitude top (omega (arith, linear, abs_is)),
      )

  pub by_other : d ≢ pos 0 → d ≢ negsuc 0 → IsTrue true ↔ ((d ≢ pos 0) × EachFits fits (IsQuotient Kind n d))
  by_other nonzero other = (λ _. (nonzero, λ q h. other_quotient_fits range n_fits d_fits other (kind.division h.division)), λ _. refl)

-- ---- when the next and the previous multiple fit

-- a number is that of its sign and magnitude
pub signed_is : {negative : Bool} {magnitude : ℕ} {z : ℤ} → IsTrue negative ↔ (z <ℤ pos 0)
    → magnitude ≡ unsigned_abs z → signed negative magnitude ≡ z
signed_is {negative = true} sign size = let below = sign.0 refl in omega (arith, linear, abs_is)
signed_is {negative = false} sign size = let up = from_test sign refl in omega (arith, linear, abs_is)

pub signed-not : (negative : Bool) (magnitude : ℕ) {z : ℤ} → signed negative magnitude ≡ z → signed (not negative) magnitude ≡ neg_ℤ z
signed-not true magnitude e = omega (arith, linear)
signed-not false magnitude e = omega (arith, linear)

module _ {fits : ℤ → Type 0} {low high : ℤ} {least most : ℕ} (range : IsRange fits low high) (bottom : least ≡ unsigned_abs low) (top : pos most ≡ high) where
  -- a number fits exactly if it lies between the ends
  inside : (z : ℤ) → IsWithin least most z ↔ fits z
  inside z = grind arith

  pub parts_inside : {negative : Bool} {magnitude : ℕ} {z : ℤ} → IsTrue negative ↔ (z <ℤ pos 0)
      → magnitude ≡ unsigned_abs z → fits z → IsWithin least most (signed negative magnitude)
  parts_inside sign size z_fits = rw (signed_is sign size) ((inside _).1 z_fits)

  pub test_inside : {answer : Bool} {z : ℤ} → IsTrue answer ↔ IsWithin least most z → IsTrue answer ↔ fits z
  test_inside test = (λ t. (inside _).0 (test.0 t), λ f. test.1 ((inside _).1 f))

  -- the same of a number that is computed of two, by their signs and magnitudes
  pub test_of_both : {answer s t : Bool} {m n : ℕ} {a b : ℤ} (of : ℤ → ℤ → ℤ) → IsTrue s ↔ (a <ℤ pos 0)
      → m ≡ unsigned_abs a → IsTrue t ↔ (b <ℤ pos 0) → n ≡ unsigned_abs b
      → IsTrue answer ↔ IsWithin least most (of (signed s m) (signed t n)) → IsTrue answer ↔ fits (of a b)
  test_of_both of s m t n test = test_inside (rw (signed_is s m, signed_is t n) at test)

-- if the multiple is a known number
pub multiple_domain : {fits : ℤ → Type 0} {Kind : ℤ → ℤ → ℤ → ℤ → Type 0} {n d m : ℤ} {answer : Bool}
    → IsKind Kind → d ≢ pos 0 → IsMultiple Kind n d m → IsTrue answer ↔ fits m
    → IsTrue answer ↔ ((d ≢ pos 0) × EachFits fits (IsMultiple Kind n d))
multiple_domain kind nonzero own test = each_fits_by nonzero own (λ k h. sym (only_multiple (λ q r p s. kind.only) own k h)) test

-- ---- when the greatest common divisor and the least common multiple fit

-- m and n are the magnitudes of a and b
module _ {fits : ℤ → Type 0} {low high a b : ℤ} {most m n : ℕ} (range : IsRange fits low high) (top : pos most ≡ high) (left : m ≡ unsigned_abs a) (right : n ≡ unsigned_abs b) where
  -- with 0 the gcd is the other magnitude
  pub gcd_of_zero : {g : ℕ} → (m ≡ 0) ⊎ ((m ≢ 0) × (n ≡ 0)) → g ≡ max m n → IsTrue (nat_le g most) ↔ EachFits fits (IsGreatestCommonDivisor a b)
  gcd_of_zero {g} zero is =
      let own : IsGreatestCommonDivisor a b (pos g) = elim zero [
        | inl none ↦ let same : g ≡ unsigned_abs b = omega arith in rw (same, abs_zero a (omega arith)) (gcd_swap (gcd_zero b))
        | inr none ↦ let same : g ≡ unsigned_abs a = omega (arith, none.1) in rw (same, abs_zero b (omega (arith, none.1))) (gcd_zero a)
      ] in
      each_fits own (λ h. only_gcd own) (test_up range top)

  -- else it is at most either
  pub gcd_of_nonzero : {least : ℕ} → fits a → fits b → m ≢ 0 → n ≢ 0 → least ≡ min m n
      → IsTrue (nat_le least most) ↔ EachFits fits (IsGreatestCommonDivisor a b)
  gcd_of_nonzero {least} a_fits b_fits m_nonzero n_nonzero is = (
    λ t g greatest.
        let a_size = divisor_size greatest.divides_left (λ e. m_nonzero (left ∙ ap unsigned_abs e)) in
        let b_size = divisor_size greatest.divides_right (λ e. n_nonzero (right ∙ ap unsigned_abs e)) in
        (range.between g).1 (omega (arith, linear, abs_is, leb-true least most t)),
    λ each. le-leb least most (le_of_suc-le-suc (lt_of_not-le (λ above.
        let same : b ≡ a = omega (arith, linear, abs_is, (range.between a).0 a_fits, (range.between b).0 b_fits) in
        let own : IsGreatestCommonDivisor a b (pos (unsigned_abs a)) = rw same (gcd_divisor (Divides_refl a)) in
        omega (arith, (fits_up range top).1 (each _ own))))),
  )

  -- the least common multiple of the magnitudes, or none in 128 bits
  pub lcm_at_most : {l : ℕ} → IsLeastCommonMultiple (pos m) (pos n) (pos l) → IsTrue (nat_le l most) ↔ EachFits fits (IsLeastCommonMultiple a b)
  lcm_at_most {l} h =
      let own : IsLeastCommonMultiple a b (pos l) = lcm-magnitudes (ap pos left) (ap pos right) h in
      each_fits own (λ l. only_lcm own) (test_up range top)

  pub no_lcm : ¬ (EachFits (FitsUnsignedBits 128) (IsLeastCommonMultiple (pos m) (pos n))) → ¬ (EachFits fits (IsLeastCommonMultiple a b))
  no_lcm beyond each = beyond (λ l h.
      let within = (range.between l).0 (each l (lcm-magnitudes (ap pos left) (ap pos right) h)) in
      fits_128_bits h.from_zero (omega (arith, linear, within, range.bounded)))

-- a sum with a number that is not negative fits exactly if it is at most the largest number, by signs and magnitudes
pub sum_fits_exactly : {fits : ℤ → Type 0} {low high a b : ℤ} {negative answer : Bool} {m n h : ℕ}
    → IsRange fits low high → fits a → pos 0 ≤ℤ b → IsTrue negative ↔ (a <ℤ pos 0) → m ≡ unsigned_abs a
    → n ≡ unsigned_abs b → pos h ≡ high → IsTrue answer ↔ ((signed negative m +ℤ pos n) ≤ℤ pos h) → IsTrue answer ↔ fits (a +ℤ b)
sum_fits_exactly {high = high} {a = a} {b = b} {answer = answer} {n = n} range a_fits up negative a_size b_size top test = grind (arith, sizes)
