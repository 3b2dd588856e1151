-- What calls return for fractions in lowest terms, and for powers of a negative degree.
use Rattle.ratio64.proofs.Common.{◌≡◌, ◌⊎◌, ◌<◌, ℤ, ℕ, pos, Result, Ok, Err, FitsSigned, int_pow, w64, inl, inr, refl, AreEqual_sym, positive_is_nonzero, IsExact, IsOutsideI64, IsReduced, AnswersFraction, num_of, den_of, Ratio, RatioError, ZeroDenominator, NotFitting, ap, power_of_zero}
use Rattle.ratio64.proofs.EqualFractions.{equal_fractions_answered_alike}
use Rattle.ratio64.proofs.ExactResults.{reduced_is_exact}
use Rattle.ratio64.proofs.FractionAnswers.{exact_answer}
use Rattle.ratio64.proofs.FractionPowers.{base_fits, equal_powers, power_nonzero, power_reduced}

pub outside_answer : {a b : ℤ} → IsOutsideI64 a b → AnswersFraction a b (Err NotFitting)
outside_answer far = record {
  exact = tt;
  zero_denominator = (λ e. absurd cc, λ none. absurd (far.exact.fraction none));
  not_fitting = (λ e. far, λ f. refl);
}

zero_answer : {a b : ℤ} → b ≡ pos 0 → AnswersFraction a b (Err ZeroDenominator)
zero_answer none = record {
  exact = tt;
  zero_denominator = (λ e. none, λ f. refl);
  not_fitting = (λ e. absurd cc, λ far. absurd (far.exact.fraction none));
}

-- ---- parts that are reduced

pub reduced_answer : {n d : ℤ} (x : Ratio) → num_of x ≡ n → den_of x ≡ d → FitsSigned w64 n → FitsSigned w64 d → AnswersFraction n d (Ok x)
reduced_answer x num den num_fits den_fits = rw (← num, ← den) (exact_answer x (reduced_is_exact x.reduced) (rw num num_fits) (rw den den_fits))

pub reduced_refused : {n d : ℤ} → IsReduced n d → (¬ (FitsSigned w64 n)) ⊎ (¬ (FitsSigned w64 d)) → AnswersFraction n d (Err NotFitting)
reduced_refused {n} {d} reduced outside = outside_answer (record { num = n; den = d; exact = reduced_is_exact reduced; outside = outside })

-- ---- powers

exact_powers : {a b n d : ℤ} (k : ℕ) → IsExact a b n d → IsExact (int_pow a k) (int_pow b k) (int_pow n k) (int_pow d k)
exact_powers {b = b} k x = record { fraction = power_nonzero b k x.fraction; reduced = power_reduced k x.reduced; equal = equal_powers k x.equal }

outside_powers : {a b : ℤ} (k : ℕ) → 0 < k → IsOutsideI64 a b → IsOutsideI64 (int_pow a k) (int_pow b k)
outside_powers k up far = record {
  num = int_pow far.num k;
  den = int_pow far.den k;
  exact = exact_powers k far.exact;
  outside = elim far.outside [
    | inl outside ↦ inl (λ fits. outside (base_fits far.num k up fits))
    | inr outside ↦ inr (λ fits. outside (base_fits far.den k up fits))
  ];
}

-- if the exact result of a fraction does not fit, those of its powers do not
pub powers_refused : {a b : ℤ} (e : RatioError) (k : ℕ) → 0 < k → AnswersFraction a b (Err e) → AnswersFraction (int_pow a k) (int_pow b k) (Err e)
powers_refused {b = b} ZeroDenominator k up h = zero_answer (rw (h.zero_denominator.0 refl) (ap pos (power_of_zero k up)))
powers_refused NotFitting k up h = outside_answer (outside_powers k up (h.not_fitting.0 refl))

-- the powers of its exact result have the results of its powers
pub powers_of_exact : {a b n d : ℤ} {r : Result Ratio RatioError} (k : ℕ) → IsExact a b n d → AnswersFraction (int_pow n k) (int_pow d k) r
    → AnswersFraction (int_pow a k) (int_pow b k) r
powers_of_exact {b = b} {d = d} k x h = equal_fractions_answered_alike (power_nonzero d k (positive_is_nonzero x.reduced.positive)) (power_nonzero b k x.fraction) (AreEqual_sym (equal_powers k x.equal)) h
