-- The exact result of a fraction: its parts by their gcd, with a positive denominator.
use Rattle.num_integer.proofs.ForCallers.{divided_by_gcd, divisor_size, exact_quotient, gcd_divisor, gcd_nonzero, gcd_positive, mul_neg}
use Rattle.ratio64.proofs.Common.{◌≡◌, ◌≢◌, ◌↔◌, ◌≤◌, ◌<ℤ◌, ◌≤ℤ◌, ◌*ℤ◌, ℤ, pos, negsuc, neg_ℤ, suc, int_div, unsigned_abs, arith, ap, refl, subst, sym, ◌∙◌, ints, Divides_refl, cancel, comm, divisor_at_most, expand, factor_positive, linear, mul-one, one_divides, products, gcd_exists, Divides, IsGreatestCommonDivisor, AreEqual, IsExact, IsFraction, IsReduced, positive_is_nonzero, same_pair, le_refl, neg_mul}

-- ---- there is only one

-- fractions that are equal to one are equal
equal_through : {a b c d e f : ℤ} → IsFraction a b → AreEqual a b c d → AreEqual a b e f → AreEqual c d e f
equal_through {b = b} {c = c} {d = d} {e = e} {f = f} fraction h k =
    let left = simp expand at (ap (λ (t : ℤ). t *ℤ f) h.cross) in
    let right = simp expand at (ap (λ (t : ℤ). t *ℤ d) k.cross) in
    record { cross = cancel b (c *ℤ f) (e *ℤ d) fraction (simp expand (omega linear)) }

pub only_exact_result : {a b p q r s : ℤ} → IsExact a b p q → IsExact a b r s → (p ≡ r) × (q ≡ s)
only_exact_result x y = same_pair x.reduced y.reduced (equal_through x.fraction x.equal y.equal)

-- equal fractions have the same
pub same_result : {a b c d p q : ℤ} → IsFraction c d → AreEqual a b c d → IsExact a b p q → IsExact c d p q
same_result fraction e x = record { fraction = fraction; reduced = x.reduced; equal = equal_through x.fraction e x.equal }

-- ---- it exists

equal_parts : {a b p q : ℤ} (g : ℤ) → a ≡ g *ℤ p → b ≡ g *ℤ q → AreEqual a b p q
equal_parts g e f = record { cross = rw (e, f) (simp expand) }

-- the quotient by a divisor is at most the number
pub quotient_at_most : {n g : ℤ} → g ≢ pos 0 → Divides g n → unsigned_abs (int_div n g) ≤ unsigned_abs n
quotient_at_most {n} {g} nonzero h = grind arith

-- for `grind`: the gcd of both parts and the quotients by it are no larger than the parts
pub ruleset quotient_steps = (le_refl, divisor_size, gcd_nonzero, positive_is_nonzero, quotient_at_most)

-- if the denominator is positive, the quotients of both parts by the gcd are the exact result
pub exact_quotients : {a b g : ℤ} → pos 0 <ℤ b → IsGreatestCommonDivisor a b g → IsExact a b (int_div a g) (int_div b g)
exact_quotients {a} {b} {g} up x =
    let nonzero = gcd_nonzero x (positive_is_nonzero up) in
    let left = exact_quotient nonzero x.divides_left in
    let right = exact_quotient nonzero x.divides_right in
    record {
      fraction = positive_is_nonzero up;
      reduced = record {
        positive = factor_positive up (gcd_positive x (positive_is_nonzero up)) right;
        lowest = divided_by_gcd nonzero (rw (← left, ← right) x);
      };
      equal = equal_parts g left right;
    }

-- if the gcd is at most 1 and the denominator is not negative, the parts are the exact result
pub coprime_is_exact : {a b g : ℤ} → IsFraction a b → pos 0 ≤ℤ b → IsGreatestCommonDivisor a b g → g ≤ℤ pos 1 → IsExact a b a b
coprime_is_exact {a} {b} {g} fraction up x small =
    let nonzero = gcd_nonzero x fraction in
    let one : g ≡ pos 1 = omega linear in
    record {
      fraction = fraction;
      reduced = record { positive = omega linear; lowest = subst (IsGreatestCommonDivisor a b) one x };
      equal = record { cross = refl };
    }

pub exact_result_exists : (a b : ℤ) → IsFraction a b → (num den : ℤ) × IsExact a b num den
exact_result_exists a (pos b) fraction = (_, _, exact_quotients (omega linear) (gcd_exists a (pos b)).1)
exact_result_exists a (negsuc b) fraction =
    let turned = neg_mul a (negsuc b) ∙ sym (mul_neg a (negsuc b)) in
    (_, _, same_result fraction (record { cross = turned }) (exact_quotients (omega ints) (gcd_exists (neg_ℤ a) (pos (suc b))).1))

-- ---- fractions that are reduced already

pub reduced_is_exact : {n d : ℤ} → IsReduced n d → IsExact n d n d
reduced_is_exact x = record { fraction = positive_is_nonzero x.positive; reduced = x; equal = record { cross = refl } }

-- a number over 1
pub whole_is_exact : (n : ℤ) → IsExact n (pos 1) n (pos 1)
whole_is_exact n = reduced_is_exact (record { positive = omega ints; lowest = gcd_divisor (one_divides n) })

-- a fraction whose numerator is 0 is 0/1
pub zero_is_over_one : {n d : ℤ} → IsReduced n d → n ≡ pos 0 → d ≡ pos 1
zero_is_over_one {n} {d} x none = (same_pair x (whole_is_exact (pos 0)).reduced (record { cross = rw none (omega products) })).1

-- the denominator divides the numerator exactly if it is 1
pub whole_exactly : {n d : ℤ} → IsReduced n d → Divides d n ↔ (d ≡ pos 1)
whole_exactly {n} {d} x = (
  λ h. omega (linear, x.positive, divisor_at_most (omega linear) (x.lowest.greatest d h (Divides_refl d))),
  λ one. rw one (one_divides n),
)

-- ---- integers

-- a multiple of the denominator has the quotient over 1 as its exact result
pub quotient_is_exact : {a b : ℤ} → IsFraction a b → (h : Divides b a) → IsExact a b h.factor (pos 1)
quotient_is_exact {a} {b} fraction h = record {
  fraction = fraction;
  reduced = (whole_is_exact h.factor).reduced;
  equal = record { cross = mul-one a ∙ h.product ∙ comm b h.factor };
}

-- a fraction whose exact result has the denominator 1 is a multiple of its denominator
pub whole_is_multiple : {a b n d : ℤ} → IsExact a b n d → d ≡ pos 1 → Divides b a
whole_is_multiple {a} {b} {n} h one = record { factor = n; product = sym (mul-one a) ∙ rw one at h.equal.cross ∙ comm n b }
