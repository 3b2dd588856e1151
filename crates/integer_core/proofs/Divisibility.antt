-- Divisors of integers, and the greatest common one.
use Rattle.integer_core.proofs.Common.{rules, dvd_refl, mod-eq_of_lt, mul-div_cancel', quot-rem, ◌<ℤ◌, IsGreatestCommonDivisor, ◌≡◌, ◌≢◌, ◌/◌, ◌≤ℤ◌, ◌+ℤ◌, ◌-ℤ◌, ◌*ℤ◌, ◌⊎◌, ◌≤◌, ℤ, pos, negsuc, neg_ℤ, unsigned_abs, int_div, arith, sym, ◌∙◌, ap, ints, unsigned_abs-mul, dvd_antisymm, mod-eq-zero_of_dvd, ◌∣◌, linear, sizes, products, expand, assoc, IsDivision, Divides, abs_is, le_of_dvd}
use Rattle.std.proofs.Math.Decide.{dec_dvd}
pub use Rattle.integer_core.proofs.Whole.{mul-one}
pub use Rattle.integer_core.proofs.Quotients.{small_multiple, truncated_is, zero_or_not, only_truncated}

pub to_natural : {u v : ℤ} → Divides u v → unsigned_abs u ∣ unsigned_abs v
to_natural {u} h = ∣ (unsigned_abs h.factor, ap unsigned_abs h.product ∙ unsigned_abs-mul u h.factor) ∣₁

pub Divides_refl : (u : ℤ) → Divides u u
Divides_refl u = record { factor = pos 1; product = sym (mul-one u) }

pub Divides_trans : {a b c : ℤ} → Divides a b → Divides b c → Divides a c
Divides_trans h k = record { factor = h.factor *ℤ k.factor; product = k.product ∙ simp (h.product, expand) }

pub Divides_zero : (u : ℤ) → Divides u (pos 0)
Divides_zero u = record { factor = pos 0; product = omega (arith, products) }

-- 0 divides 0 alone
pub zero_divides : {v : ℤ} → Divides (pos 0) v → v ≡ pos 0
zero_divides h = omega (arith, products)

pub Divides-minus_one : (v : ℤ) → Divides (negsuc 0) v
Divides-minus_one v = record { factor = neg_ℤ v; product = omega (arith, products) }

-- two non-negative numbers that divide each other
pub Divides_antisym : {u v : ℤ} → pos 0 ≤ℤ u → pos 0 ≤ℤ v → Divides u v → Divides v u → u ≡ v
Divides_antisym up up' h k = let same = dvd_antisymm (to_natural h) (to_natural k) in omega (arith, sizes)

-- the magnitude of a number divides the number
pub magnitude_divides : (d : ℤ) → Divides (pos (unsigned_abs d)) d
magnitude_divides (pos d) = Divides_refl (pos d)
magnitude_divides (negsuc d) = record { factor = negsuc 0; product = omega (arith, ints) }

-- a number divides its magnitude
pub divides_magnitude : (d : ℤ) → Divides d (pos (unsigned_abs d))
divides_magnitude (pos d) = Divides_refl (pos d)
divides_magnitude (negsuc d) = record { factor = negsuc 0; product = omega (arith, ints) }

pub from_natural : {u v : ℤ} → unsigned_abs u ∣ unsigned_abs v → Divides u v
from_natural {u} {v} h =
    let sizes : Divides (pos (unsigned_abs u)) (pos (unsigned_abs v)) =
    record { factor = pos (unsigned_abs v / unsigned_abs u); product = sym (ap pos (mul-div_cancel' _ h)) } in
    Divides_trans (divides_magnitude u) (Divides_trans sizes (magnitude_divides v))

pub Divides_sum : {d u v : ℤ} (x y : ℤ) → Divides d u → Divides d v → Divides d (x *ℤ u +ℤ y *ℤ v)
Divides_sum x y h k = record { factor = x *ℤ h.factor +ℤ y *ℤ k.factor; product = simp (h.product, k.product, expand) }

-- a remainder is the number minus the quotient times the divisor
pub rest_is : {n d q r : ℤ} → IsDivision n d q r → r ≡ n -ℤ q *ℤ d
rest_is h = let e = h.equation in omega (arith, linear)

-- a divisor of the divisor and the remainder divides the number
pub divides_number : {g n d q r : ℤ} → IsDivision n d q r → Divides g d → Divides g r → Divides g n
divides_number {q = q} x h k = record { factor = q *ℤ h.factor +ℤ k.factor; product = simp (x.equation, h.product, k.product, expand) (omega (arith, linear)) }

pub divides_remainder : {g n d q r : ℤ} → IsDivision n d q r → Divides g n → Divides g d → Divides g r
divides_remainder {q = q} x h k = record { factor = h.factor -ℤ q *ℤ k.factor; product = rest_is x ∙ simp (h.product, k.product, expand) (omega (arith, linear)) }

pub abs_zero : (z : ℤ) → unsigned_abs z ≡ 0 → z ≡ pos 0
abs_zero z h = omega (arith, ints)

-- a number leaves no remainder exactly if the divisor divides it
pub exact_from_divides : {n d q r : ℤ} → IsDivision n d q r → Divides d n → r ≡ pos 0
exact_from_divides {d = d} x h = abs_zero _ (sym (mod-eq_of_lt x.small) ∙ mod-eq-zero_of_dvd _ (to_natural (divides_remainder x h (Divides_refl d))))

pub divides_from_exact : {n d q r : ℤ} → IsDivision n d q r → r ≡ pos 0 → Divides d n
divides_from_exact {q = q} x exact = record { factor = q; product = omega (arith, products) }

-- ---- factors in common

pub cancel : (c x y : ℤ) → c ≢ pos 0 → c *ℤ x ≡ c *ℤ y → x ≡ y
cancel c x y nonzero e =
    let gap : (x -ℤ y) *ℤ c ≡ pos 0 = simp expand (omega (arith, linear)) in
    omega (arith, linear, small_multiple (x -ℤ y) c (rw gap (omega (arith, sizes))))

pub Divides_times : {u v : ℤ} (c : ℤ) → Divides u v → Divides (c *ℤ u) (c *ℤ v)
Divides_times {u} {v} c h = record { factor = h.factor; product = ap (λ (t : ℤ). c *ℤ t) h.product ∙ sym (assoc c u h.factor) }

pub Divides_cancel : {u v : ℤ} (c : ℤ) → c ≢ pos 0 → Divides (c *ℤ u) (c *ℤ v) → Divides u v
Divides_cancel {u} {v} c nonzero h = record { factor = h.factor; product = cancel c v (u *ℤ h.factor) nonzero (h.product ∙ assoc c u h.factor) }

-- the quotient by a divisor is exact
pub exact_quotient : {n d : ℤ} → d ≢ pos 0 → Divides d n → n ≡ d *ℤ int_div n d
exact_quotient {n} {d} nonzero h = omega (arith, products, quot-rem n d, exact_from_divides (truncated_is n d nonzero).division h)

-- ---- divisors or not, and how large they are

-- 1 divides each number
pub one_divides : (n : ℤ) → Divides (pos 1) n
one_divides n = record { factor = n; product = omega (arith, products) }

-- any number divides another or not
pub divides_decided : (d n : ℤ) → Divides d n ⊎ (¬ (Divides d n))
divides_decided d n = grind (arith, dec_dvd, unsigned_abs, from_natural, to_natural)

-- a number other than 0 divides another or not
pub divides_or_not : (d n : ℤ) → d ≢ pos 0 → Divides d n ⊎ (¬ (Divides d n))
divides_or_not d n _ = divides_decided d n

-- a divisor of a number other than 0 is at most as large
pub divisor_size : {d n : ℤ} → Divides d n → n ≢ pos 0 → unsigned_abs d ≤ unsigned_abs n
divisor_size h nonzero = le_of_dvd (omega (arith, linear, abs_is)) (to_natural h)

-- ---- greatest common divisors

-- two numbers have one greatest common divisor
pub only_gcd : {a b g h : ℤ} → IsGreatestCommonDivisor a b g → IsGreatestCommonDivisor a b h → g ≡ h
only_gcd x y = Divides_antisym x.from_zero y.from_zero (y.greatest _ x.divides_left x.divides_right) (x.greatest _ y.divides_left y.divides_right)

-- the gcd in the other order is the same
pub gcd_swap : {a b g : ℤ} → IsGreatestCommonDivisor a b g → IsGreatestCommonDivisor b a g
gcd_swap x = record { from_zero = x.from_zero; divides_left = x.divides_right; divides_right = x.divides_left; greatest = λ d h k. x.greatest d k h }

-- the gcd is 0 for 0 and 0 alone
pub gcd_nonzero : {a b g : ℤ} → IsGreatestCommonDivisor a b g → b ≢ pos 0 → g ≢ pos 0
gcd_nonzero x nonzero none = nonzero (zero_divides (rw none at x.divides_right))

pub gcd_positive : {a b g : ℤ} → IsGreatestCommonDivisor a b g → b ≢ pos 0 → pos 0 <ℤ g
gcd_positive x nonzero = let g_nonzero = gcd_nonzero x nonzero in omega (arith, linear)

-- the gcd of a number and a divisor is the magnitude of the divisor
pub gcd_divisor : {d n : ℤ} → Divides d n → IsGreatestCommonDivisor n d (pos (unsigned_abs d))
gcd_divisor h = grind (arith, ints, to_natural, from_natural, dvd_refl)

-- the gcd with 0 is the magnitude
pub gcd_zero : (a : ℤ) → IsGreatestCommonDivisor a (pos 0) (pos (unsigned_abs a))
gcd_zero a = gcd_swap (gcd_divisor (Divides_zero a))

-- a number and a divisor have that of the divisor and the remainder
pub gcd-remainder : {g n d q r : ℤ} → IsDivision n d q r → IsGreatestCommonDivisor d r g → IsGreatestCommonDivisor n d g
gcd-remainder x y = search (rules, divides_number, divides_remainder, y.greatest)
