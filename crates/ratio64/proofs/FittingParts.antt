-- The size of an exact result, and which results are no errors.
use Rattle.ratio64.proofs.Common.{◌≡◌, ◌≢◌, ◌⊎◌, ◌<◌, ◌≤◌, ◌^◌, ◌<ℤ◌, ◌≤ℤ◌, ◌*ℤ◌, ℤ, pos, neg_ℤ, unsigned_abs, Result, Ok, Err, FitsSigned, IfErr, w64, arith, inl, inr, ◌∙◌, le-mul_of_pos_right, fits_signed_from_abs, unsigned_abs-mul, cancel, comm, expand, factor_positive, linear, products, sizes, IsExact, IsOutsideI64, AnswersFraction, AreEqual_sym, denominator_divides, positive_is_nonzero, Ratio, RatioError}
use Rattle.ratio64.proofs.NearestNumbers.{quotient_fits}

-- both parts of a fraction are those of its exact result times one number
pub common_factor : {a b n d : ℤ} → IsExact a b n d → (s : ℤ) × (a ≡ n *ℤ s) × (b ≡ d *ℤ s)
common_factor {a} {b} {n} {d} h =
    let x = denominator_divides h.reduced (AreEqual_sym h.equal) in
    (x.factor, cancel d a (n *ℤ x.factor) (positive_is_nonzero h.reduced.positive) (comm d a ∙ rw x.product at h.equal.cross ∙ simp expand), x.product)

factor_at_most : (x y s : ℤ) → s ≢ pos 0 → x ≡ y *ℤ s → unsigned_abs y ≤ unsigned_abs x
factor_at_most x y s nonzero e = rw (e, unsigned_abs-mul y s) (le-mul_of_pos_right (unsigned_abs y) (omega sizes))

-- they are no wider than those of the fraction
pub exact_parts_at_most : {a b n d : ℤ} → IsExact a b n d → (unsigned_abs n ≤ unsigned_abs a) × (unsigned_abs d ≤ unsigned_abs b)
exact_parts_at_most {a} {b} {n} {d} h =
    let s = common_factor h in
    let nonzero : s.0 ≢ pos 0 = λ none. h.fraction (rw none at s.2 ∙ omega products) in
    (factor_at_most a n s.0 nonzero s.1, factor_at_most b d s.0 nonzero s.2)

pub small_parts_inside : {a b : ℤ} → unsigned_abs a < 2 ^ 63 → unsigned_abs b < 2 ^ 63 → ¬ (IsOutsideI64 a b)
small_parts_inside a_small b_small far =
    let size = exact_parts_at_most far.exact in
    elim far.outside [
      | inl outside ↦ outside (fits_signed_from_abs w64 far.num (omega arith))
      | inr outside ↦ outside (fits_signed_from_abs w64 far.den (omega arith))
    ]

-- if the denominator is positive, it is enough that both parts fit, also MIN
pub positive_denominator_inside : {a b : ℤ} → FitsSigned w64 a → FitsSigned w64 b → pos 0 <ℤ b → ¬ (IsOutsideI64 a b)
positive_denominator_inside {a} {b} a_fits b_fits up far =
    let s = common_factor far.exact in
    let s_up = factor_positive up far.exact.reduced.positive s.2 in
    elim far.outside [
      | inl outside ↦ outside (quotient_fits {r = pos 0} s_up (record { equation = omega (linear, s.1); small = omega sizes }) w64 a_fits)
      | inr outside ↦ outside (quotient_fits {r = pos 0} s_up (record { equation = omega (linear, s.2); small = omega sizes }) w64 b_fits)
    ]

pub positive_is_answered : {a b : ℤ} (r : Result Ratio RatioError) → FitsSigned w64 a → FitsSigned w64 b → AnswersFraction a b r
    → IfErr r (λ _. b ≤ℤ pos 0)
positive_is_answered (Ok x) a_fits b_fits h = tt
positive_is_answered {b = b} (Err e) a_fits b_fits h = grind (arith, positive_denominator_inside)

-- ---- parts of 128 bits, and of 64 bits

-- a positive numerator gives an error only over 0 and MIN
pub positive_over_other : {a b : ℤ} (r : Result Ratio RatioError) → FitsSigned w64 a → FitsSigned w64 b → pos 0 <ℤ a → AnswersFraction a b r
    → IfErr r (λ _. (b ≡ pos 0) ⊎ (b ≡ neg_ℤ (pos (2 ^ 63))))
positive_over_other (Ok x) a_fits b_fits up h = tt
positive_over_other {a} {b} (Err e) a_fits b_fits up h = grind (arith, small_parts_inside)
