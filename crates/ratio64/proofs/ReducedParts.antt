-- Reduced pairs that come of another: negated, of a remainder.
use Rattle.ratio64.proofs.Common.{◌≡◌, ◌+ℤ◌, ◌*ℤ◌, ℤ, pos, negsuc, neg_ℤ, unsigned_abs, FitsSigned, w64, subst, ints, Divides_sum, one_divides, products, Divides, IsGreatestCommonDivisor, IsReduced, Divides_trans}

-- numbers are coprime if each common divisor divides 1
pub coprime_by : {a b : ℤ} → ((e : ℤ) → Divides e a → Divides e b → Divides e (pos 1)) → IsGreatestCommonDivisor a b (pos 1)
coprime_by common = record { from_zero = omega ints; divides_left = one_divides _; divides_right = one_divides _; greatest = common }

pub negated_reduced : {n d : ℤ} → IsReduced n d → IsReduced (neg_ℤ n) d
negated_reduced x = record {
  positive = x.positive;
  lowest = coprime_by (λ e left right. x.lowest.greatest e (Divides_trans left (record { factor = negsuc 0; product = omega products })) right);
}

pub magnitude_reduced : (n : ℤ) {d : ℤ} → IsReduced n d → IsReduced (pos (unsigned_abs n)) d
magnitude_reduced (pos n) x = x
magnitude_reduced (negsuc n) x = negated_reduced x

-- a magnitude fits exactly if the negation does
pub magnitude_fits : (n : ℤ) → FitsSigned w64 n → FitsSigned w64 (neg_ℤ n) → FitsSigned w64 (pos (unsigned_abs n))
magnitude_fits (pos n) fits negation_fits = fits
magnitude_fits (negsuc n) fits negation_fits = negation_fits

pub magnitude_outside : (n : ℤ) → ¬ (FitsSigned w64 (neg_ℤ n)) → ¬ (FitsSigned w64 (pos (unsigned_abs n)))
magnitude_outside (pos n) outside fits = let low = fits.sfits in outside (record { sfits = omega ints })
magnitude_outside (negsuc n) outside fits = outside fits

-- a remainder by the denominator stays over it
pub remainder_reduced : {n d r : ℤ} (q : ℤ) → IsReduced n d → n ≡ q *ℤ d +ℤ r → IsReduced r d
remainder_reduced {n} {d} {r} q x equation = record {
  positive = x.positive;
  lowest = coprime_by (λ e left right.
      let whole : Divides e (q *ℤ d +ℤ pos 1 *ℤ r) = Divides_sum q (pos 1) right left in
      let same : q *ℤ d +ℤ pos 1 *ℤ r ≡ n = omega products in
      x.lowest.greatest e (subst (λ (t : ℤ). Divides e t) same whole) right);
}
