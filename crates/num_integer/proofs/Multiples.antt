-- Least common multiples as the first positive common multiples, bounds of greatest common divisors, least common multiples of literals, and
-- even numbers.
use Rattle.num_integer.proofs.Common.{◌≢◌, ◌<◌, ◌≤◌, ◌^◌, ℕ, ℤ, pos, Option, Some, None, FitsUnsignedBits, Divides, EachFits, IsGreatestCommonDivisor, IsLeastCommonMultiple, arith, inl, inr, ints, linear, lcm_exists, subst, sym, cases_lt, ◌≡◌, ◌*◌, ◌/◌, ◌%◌, zero, suc, unsigned_abs, IsTrue, nat_lt, FitsSigned, Width, ◌∙◌, ap, refl, mul-zero, zero-div, ltb-true, gcd-remainder, gcd_zero, lcm-computed, only_lcm, zero_divides, zero_or_not}
use Rattle.std.specs.Prelude.{MatchOption, ◌+ℤ◌}
use Rattle.integer_core.proofs.DivisorSizes.{divisor_at_most, gcd_at_most, lcm_positive}
use Rattle.integer_core.proofs.Least.{least_is_only}
use Rattle.integer_core.proofs.Quotients.{division_exists}
use Rattle.integer_core.proofs.Whole.{products, sizes}
use Rattle.integer_core.specs.Divisors.{IsEven}
use Rattle.num_integer.specs.Checked.{AnswersWhere, FitsWith}
use Rattle.num_integer.specs.Least.{IsLeastFrom}
use mir.Val.{hbits}
use Rattle.std.proofs.lemmas.Int.{fits_signed_from_abs}
use Rattle.integer_core.proofs.NaturalDivision.{natural_division}
use Rattle.num_integer.specs.Laws as law

-- ---- multiples

-- The least common multiple of numbers that are not 0 is their first positive common multiple.
pub lcm_is_first : {a b l : ℤ} → a ≢ pos 0 → b ≢ pos 0 → IsLeastCommonMultiple a b l → IsLeastFrom (pos 1) (λ u. Divides a u × Divides b u) l
lcm_is_first a_nonzero b_nonzero h =
    let up = lcm_positive h a_nonzero b_nonzero in
    record {
      from_there = omega (arith, linear);
      holds = (h.left_divides, h.right_divides);
      least = λ u from both. divisor_at_most (omega (arith, linear)) (h.least u both.0 both.1);
    }

pub lcm_is_first_common_multiple : law.LcmIsFirstCommonMultiple
lcm_is_first_common_multiple = λ a b l a_nonzero b_nonzero. (
  lcm_is_first a_nonzero b_nonzero,
  λ first. let own = lcm_exists a b in subst (IsLeastCommonMultiple a b) (least_is_only first own.0 (lcm_is_first a_nonzero b_nonzero own.1)) own.1,
)

-- ---- calls that return the least common multiple if it fits

-- A call that does returns the first common multiple, or no first common multiple fits.
pub first_multiple_answers : {X : Type 0} (value : X → ℤ) (fits : ℤ → Type 0) {a b : ℤ} (r : Option X) → a ≢ pos 0 → b ≢ pos 0
    → AnswersWhere (EachFits fits (IsLeastCommonMultiple a b)) (FitsWith fits value (IsLeastCommonMultiple a b)) r
    → MatchOption r ((t : ℤ) → IsLeastFrom (pos 1) (λ u. Divides a u × Divides b u) t → ¬ (fits t)) (λ x. IsLeastFrom (pos 1) (λ u. Divides a u × Divides b u) (value x))
first_multiple_answers value fits (Some x) a_nonzero b_nonzero h = lcm_is_first a_nonzero b_nonzero h.1.1
first_multiple_answers value fits None a_nonzero b_nonzero none = λ t first t_fits. none (λ z is. subst fits (sym (least_is_only first z (lcm_is_first a_nonzero b_nonzero is))) t_fits)

-- The same at an unsigned type of w bits.
pub first_natural_multiple : (w : ℕ) {a b : ℕ} (r : Option ℕ) → 0 < a → 0 < b
    → AnswersWhere (EachFits (FitsUnsignedBits w) (IsLeastCommonMultiple (pos a) (pos b))) (λ l. (l < 2 ^ w) × IsLeastCommonMultiple (pos a) (pos b) (pos l)) r
    → MatchOption r ((t : ℕ) → IsLeastFrom (pos 1) (λ u. Divides (pos a) u × Divides (pos b) u) (pos t) → 2 ^ w ≤ t) (λ t. IsLeastFrom (pos 1) (λ u. Divides (pos a) u × Divides (pos b) u) (pos t))
first_natural_multiple w {a} {b} (Some l) a_up b_up h = first_multiple_answers pos (FitsUnsignedBits w) (Some l) (λ zero. omega (arith, ints)) (λ zero. omega (arith, ints)) h
first_natural_multiple w {a} {b} None a_up b_up none = λ t first. elim (cases_lt t (2 ^ w)) [
  | inl below ↦ absurd (first_multiple_answers pos (FitsUnsignedBits w) None (λ zero. omega (arith, ints)) (λ zero. omega (arith, ints)) none (pos t) first below)
  | inr far ↦ far
]

-- The same at `u64`.
pub first_multiple_at_u64 : {a b : ℕ} (r : Option ℕ) → 0 < a → 0 < b
    → AnswersWhere (EachFits (FitsUnsignedBits 64) (IsLeastCommonMultiple (pos a) (pos b))) (λ l. (l < 2 ^ 64) × IsLeastCommonMultiple (pos a) (pos b) (pos l)) r
    → MatchOption r ((t : ℕ) → IsLeastFrom (pos 1) (λ u. Divides (pos a) u × Divides (pos b) u) (pos t) → 2 ^ 64 ≤ t) (λ t. IsLeastFrom (pos 1) (λ u. Divides (pos a) u × Divides (pos b) u) (pos t))
first_multiple_at_u64 = first_natural_multiple 64

-- ---- bounds

pub gcd_is_at_most_each_bound : law.GcdIsAtMostEachBound
gcd_is_at_most_each_bound = λ a b g most left right h. gcd_at_most most left right h

-- The gcd of two natural numbers is at most each number that both are at most.
pub natural_gcd_at_most : (a b g most : ℕ) → a ≤ most → b ≤ most → IsGreatestCommonDivisor (pos a) (pos b) (pos g) → g ≤ most
natural_gcd_at_most a b g most left right h = gcd_at_most most left right h

-- ---- literals, whose least common multiple the prover computes

-- Euclid's algorithm, which the prover computes
abbrev pub euclid : ℕ → ℕ → ℕ → ℕ
euclid zero a b = a
euclid (suc iterations) a zero = a
euclid (suc iterations) a (suc b) = euclid iterations (suc b) (a % suc b)

euclid_is : (iterations a b : ℕ) → b < iterations → IsGreatestCommonDivisor (pos a) (pos b) (pos (euclid iterations a b))
euclid_is zero a b h = absurd (omega arith)
euclid_is (suc iterations) a zero h = gcd_zero (pos a)
euclid_is (suc iterations) a (suc b) h =
    gcd-remainder (natural_division a (suc b) (omega arith)).division (euclid_is iterations (suc b) (a % suc b) (omega arith))

-- the lcm of two numbers by their magnitudes
abbrev pub lcm_number : ℕ → ℕ → ℕ
lcm_number m n = m * (n / euclid (suc n) m n)

lcm_is : {a b l : ℤ} → IsLeastCommonMultiple a b l → l ≡ pos (lcm_number (unsigned_abs a) (unsigned_abs b))
lcm_is {a} {b} h = elim (zero_or_not b) [
  | inl none ↦ rw none (zero_divides (rw none at h.right_divides) ∙ ap pos (sym (ap (λ (t : ℕ). unsigned_abs a * t) (zero-div _) ∙ mul-zero _)))
  | inr nonzero ↦ only_lcm h (lcm-computed {q = pos (unsigned_abs b / euclid (suc (unsigned_abs b)) (unsigned_abs a) (unsigned_abs b))} refl refl nonzero (euclid_is (suc (unsigned_abs b)) (unsigned_abs a) (unsigned_abs b) (omega arith)) refl refl)
]

-- the lcm of two literals fits if the computed one does
pub literal_lcm_fits : (bits : ℕ) {a b l : ℤ} → IsLeastCommonMultiple a b l
    → IsTrue (nat_lt (lcm_number (unsigned_abs a) (unsigned_abs b)) (2 ^ bits)) → FitsUnsignedBits bits l
literal_lcm_fits bits h test = subst (FitsUnsignedBits bits) (sym (lcm_is h)) (ltb-true _ _ test)

pub literal_lcm_fits_signed : (w : Width) {a b l : ℤ} → IsLeastCommonMultiple a b l
    → IsTrue (nat_lt (lcm_number (unsigned_abs a) (unsigned_abs b)) (2 ^ hbits w)) → FitsSigned w l
literal_lcm_fits_signed w h test = subst (FitsSigned w) (sym (lcm_is h)) (fits_signed_from_abs w _ (ltb-true _ _ test))

-- ---- even numbers

-- a number and the next one are not both even
pub not_both_even : {q p : ℤ} → p ≡ q +ℤ pos 1 → IsEven q → ¬ (IsEven p)
not_both_even next even other = let half = even.product in let other_half = other.product in omega (arith, products)

-- one of a number and the next one is even
pub even_or_next : (q : ℤ) → ¬ (IsEven q) → IsEven (q +ℤ pos 1)
even_or_next q odd =
    let half = division_exists.1 q (pos 2) (λ e. omega (arith, linear)) in
    elim (zero_or_not half.1) [
      | inl none ↦ absurd (odd (record { factor = half.0; product = omega (arith, products) }))
      | inr one ↦ record { factor = half.0 +ℤ pos 1; product = omega (arith, products, sizes) }
    ]
