-- Equal fractions have one exact result, and equal sums and products.
use Rattle.ratio64.proofs.Common.{◌≢◌, ◌+ℤ◌, ◌*ℤ◌, ℤ, pos, Result, Ok, Err, IfOk, arith, ap, expand, linear, AreEqual, IsExact, IsFraction, IsOutsideI64, AnswersFraction, num_of, den_of, AreEqual_sym, positive_is_nonzero, Ratio, RatioError}
use Rattle.ratio64.proofs.ExactResults.{same_result}
use Rattle.ratio64.proofs.FractionAnswers.{zero_factor}

-- ---- sums and products

-- with the fractions a/b and c/d, equal to e/f and g/h
pub equal_products : (a b c d e f g h : ℤ) → AreEqual a b e f → AreEqual c d g h → AreEqual (a *ℤ c) (b *ℤ d) (e *ℤ g) (f *ℤ h)
equal_products a b c d e f g h x y =
    let left = simp expand at (ap (λ (t : ℤ). t *ℤ (c *ℤ h)) x.cross) in
    let right = simp expand at (ap (λ (t : ℤ). (e *ℤ b) *ℤ t) y.cross) in
    record { cross = simp expand (omega linear) }

pub equal_sums : (a b c d e f g h : ℤ) → AreEqual a b e f → AreEqual c d g h → AreEqual (a *ℤ d +ℤ c *ℤ b) (b *ℤ d) (e *ℤ h +ℤ g *ℤ f) (f *ℤ h)
equal_sums a b c d e f g h x y =
    let left = simp expand at (ap (λ (t : ℤ). t *ℤ (d *ℤ h)) x.cross) in
    let right = simp expand at (ap (λ (t : ℤ). t *ℤ (b *ℤ f)) y.cross) in
    record { cross = simp expand (omega linear) }

-- ---- results

pub equal_outside : {a b c d : ℤ} → IsFraction c d → AreEqual a b c d → IsOutsideI64 a b → IsOutsideI64 c d
equal_outside fraction equal far = record { num = far.num; den = far.den; exact = same_result fraction equal far.exact; outside = far.outside }

-- the exact result of a fraction is that of each equal fraction
pub equal_exact : {a b c d : ℤ} (r : Result Ratio RatioError) → IsFraction c d → AreEqual a b c d → IfOk r (λ x. IsExact a b (num_of x) (den_of x))
    → IfOk r (λ x. IsExact c d (num_of x) (den_of x))
equal_exact (Ok x) fraction equal exact = same_result fraction equal exact
equal_exact (Err e) fraction equal exact = tt

pub equal_fractions_answered_alike : {a b c d : ℤ} {r : Result Ratio RatioError} → b ≢ pos 0 → d ≢ pos 0 → AreEqual a b c d → AnswersFraction a b r
    → AnswersFraction c d r
equal_fractions_answered_alike {r = r} b_nonzero d_nonzero equal h = record {
  exact = equal_exact r d_nonzero equal h.exact;
  zero_denominator = (λ e. absurd (b_nonzero (h.zero_denominator.0 e)), λ none. absurd (d_nonzero none));
  not_fitting = (λ e. equal_outside d_nonzero equal (h.not_fitting.0 e), λ far. h.not_fitting.1 (equal_outside b_nonzero (AreEqual_sym equal) far));
}

-- ---- sums and products of exact results

-- a product of denominators is not 0
pub nonzero_product : {b d : ℤ} → b ≢ pos 0 → d ≢ pos 0 → b *ℤ d ≢ pos 0
nonzero_product b_nonzero d_nonzero e = b_nonzero ((zero_factor d_nonzero).0 e)

-- with the exact results m/n of a/b and p/q of c/d
module _ {a b c d m n p q : ℤ} (x : IsExact a b m n) (y : IsExact c d p q) where
  denominators : n *ℤ q ≢ pos 0
  denominators = grind (arith, nonzero_product)

  -- their sum has the result of the sum of the fractions
  pub sum_of_exact_results : {r : Result Ratio RatioError} → AnswersFraction (m *ℤ q +ℤ p *ℤ n) (n *ℤ q) r
      → AnswersFraction (a *ℤ d +ℤ c *ℤ b) (b *ℤ d) r
  sum_of_exact_results = equal_fractions_answered_alike denominators (nonzero_product x.fraction y.fraction) (equal_sums m n p q a b c d (AreEqual_sym x.equal) (AreEqual_sym y.equal))

  -- and so does their product
  pub product_of_exact_results : {r : Result Ratio RatioError} → AnswersFraction (m *ℤ p) (n *ℤ q) r → AnswersFraction (a *ℤ c) (b *ℤ d) r
  product_of_exact_results = equal_fractions_answered_alike denominators (nonzero_product x.fraction y.fraction) (equal_products m n p q a b c d (AreEqual_sym x.equal) (AreEqual_sym y.equal))

-- The exact result of a fraction times n/d is that of the fraction times n/d.
pub times_of_exact_result : {a b num den d : ℤ} {r : Result Ratio RatioError} (n : ℤ) → IsExact a b num den → d ≢ pos 0
    → AnswersFraction (num *ℤ n) (d *ℤ den) r → AnswersFraction (a *ℤ n) (b *ℤ d) r
times_of_exact_result {d = d} n x nonzero =
    let times = simp expand at (ap (λ (t : ℤ). t *ℤ (n *ℤ d)) x.equal.cross) in
    equal_fractions_answered_alike (nonzero_product nonzero (positive_is_nonzero x.reduced.positive)) (nonzero_product x.fraction nonzero) (record { cross = simp expand (omega linear) })
