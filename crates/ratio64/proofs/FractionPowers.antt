-- Powers of reduced pairs are reduced, and those of equal fractions equal.
use Rattle.ratio64.proofs.Common.{◌≡◌, ◌≢◌, ◌<◌, ◌≤◌, ◌^◌, ◌<ℤ◌, ◌*ℤ◌, ℤ, ℕ, pos, negsuc, zero, suc, FitsSigned, int_pow, w64, arith, ap, sym, ◌∙◌, one-le-pow, pow-succ', mul-le-mul_left, ints, Divides_trans, coprime_divides, expand, gcd_swap, int_pow_suc, int_pow_zero, power_size, products, IsGreatestCommonDivisor, AreEqual, IsReduced}
use Rattle.ratio64.proofs.ReducedParts.{coprime_by}
use Rattle.ratio64.proofs.WideSums.{part_size}

-- ---- powers of integers

-- the power of a product
pub power_of_product : (x y : ℤ) (k : ℕ) → int_pow (x *ℤ y) k ≡ int_pow x k *ℤ int_pow y k
power_of_product x y zero = rw (int_pow_zero (x *ℤ y), int_pow_zero x, int_pow_zero y) (omega products)
power_of_product x y (suc k) = rw (int_pow_suc (x *ℤ y) k, int_pow_suc x k, int_pow_suc y k, power_of_product x y k) (simp expand)

-- it is not 0 if the number is not
pub power_nonzero : (x : ℤ) (k : ℕ) → x ≢ pos 0 → int_pow x k ≢ pos 0
power_nonzero x k nonzero none = grind (arith, one-le-pow)

power_positive : (x : ℤ) (k : ℕ) → pos 0 <ℤ x → pos 0 <ℤ int_pow x k
power_positive (pos n) k up = omega (ints, one-le-pow k n (omega ints))
power_positive (negsuc n) k up = absurd (omega ints)

-- if it fits, so does the number
at_most_power : (n k : ℕ) → 0 < k → n ≤ n ^ k
at_most_power zero k up = omega arith
at_most_power (suc n) zero up = absurd (omega arith)
at_most_power (suc n) (suc k) up = rw (pow-succ' (suc n) k) (omega (arith, mul-le-mul_left (suc n) (one-le-pow k (suc n) (omega arith))))

pub base_fits : (x : ℤ) (k : ℕ) → 0 < k → FitsSigned w64 (int_pow x k) → FitsSigned w64 x
base_fits (pos n) k up fits = let low = fits.sfits in record { sfits = omega (arith, at_most_power n k up) }
base_fits (negsuc n) k up fits =
    record { sfits = omega (arith, at_most_power (suc n) k up, power_size (negsuc n) k, part_size (int_pow (negsuc n) k) fits) }

-- ---- powers of fractions

-- a product is coprime to what both factors are coprime to
coprime_product : {a b c : ℤ} → IsGreatestCommonDivisor a c (pos 1) → IsGreatestCommonDivisor b c (pos 1) → IsGreatestCommonDivisor (a *ℤ b) c (pos 1)
coprime_product {a} x y = coprime_by (λ e left right.
    let apart : IsGreatestCommonDivisor a e (pos 1) = coprime_by (λ f u v. x.greatest f u (Divides_trans v right)) in
    y.greatest e (coprime_divides apart left) right)

power_coprime : (x : ℤ) (k : ℕ) {c : ℤ} → IsGreatestCommonDivisor x c (pos 1) → IsGreatestCommonDivisor (int_pow x k) c (pos 1)
power_coprime x zero h = rw (int_pow_zero x) (coprime_by (λ e left right. left))
power_coprime x (suc k) h = rw (int_pow_suc x k) (coprime_product h (power_coprime x k h))

pub power_reduced : {n d : ℤ} (k : ℕ) → IsReduced n d → IsReduced (int_pow n k) (int_pow d k)
power_reduced {n} {d} k x = record {
  positive = power_positive d k x.positive;
  lowest = gcd_swap (power_coprime d k (gcd_swap (power_coprime n k x.lowest)));
}

pub equal_powers : {a b c d : ℤ} (k : ℕ) → AreEqual a b c d → AreEqual (int_pow a k) (int_pow b k) (int_pow c k) (int_pow d k)
equal_powers {a} {b} {c} {d} k e = record { cross = sym (power_of_product a d k) ∙ ap (λ (t : ℤ). int_pow t k) e.cross ∙ power_of_product c b k }
