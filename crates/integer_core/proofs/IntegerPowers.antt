-- Powers of integers: of 0 and 1, their signs, one degree more, and the double degree.
use Rattle.integer_core.proofs.Common.{◌≡◌, ◌⊎◌, ◌+◌, ◌%◌, ◌^◌, ◌<◌, ◌*ℤ◌, ℤ, ℕ, pos, negsuc, neg_ℤ, zero, suc, unsigned_abs, int_pow, arith, ap, ◌∙◌, inl, inr, refl, sym, pow-zero, pow-succ', pow-lt-pow_left, cases_lt, ints, expand}

-- the powers of 1
pub power_of_one : (n : ℕ) → 1 ^ n ≡ 1
power_of_one zero = pow-zero 1
power_of_one (suc n) = rw (pow-succ' 1 n, power_of_one n) refl

-- the powers of 0
pub power_of_zero : (n : ℕ) → 0 < n → 0 ^ n ≡ 0
power_of_zero n h = omega (arith, pow-lt-pow_left {a = 0} {b = 1} {n = n} (omega arith) (omega arith), power_of_one n)

pub even_power : (k : ℤ) (n : ℕ) → n % 2 ≡ 0 → int_pow k n ≡ pos (unsigned_abs k ^ n)
even_power k n even = grind (arith, int_pow, unsigned_abs)

pub odd_power : (k : ℤ) (n : ℕ) → n % 2 ≡ 1 → int_pow (neg_ℤ k) n ≡ neg_ℤ (int_pow k n)
odd_power k n odd = grind (arith, ints, power_of_zero, int_pow)

pub even_or_odd : (n : ℕ) → (n % 2 ≡ 0) ⊎ (n % 2 ≡ 1)
even_or_odd n = elim (cases_lt (n % 2) 1) [ inl even ↦ inl (omega arith) | inr odd ↦ inr (omega arith) ]

pub power_size : (k : ℤ) (n : ℕ) → unsigned_abs (int_pow k n) ≡ unsigned_abs k ^ n
power_size (pos a) n = refl
power_size (negsuc a) n = grind arith

pub int_pow_zero : (x : ℤ) → int_pow x 0 ≡ pos 1
int_pow_zero x = grind (arith, ints, int_pow, pow-zero)

pub int_pow_suc : (x : ℤ) (n : ℕ) → int_pow x (suc n) ≡ x *ℤ int_pow x n
int_pow_suc (pos a) n = ap pos (pow-succ' a n)
int_pow_suc (negsuc a) n = grind (arith, pow-succ')

-- the power of degree 2h is that of the square
pub power_of_square : (x : ℤ) (h : ℕ) → int_pow x (h + h) ≡ int_pow (x *ℤ x) h
power_of_square x zero = int_pow_zero x ∙ sym (int_pow_zero (x *ℤ x))
power_of_square x (suc h) =
    let e : suc h + suc h ≡ suc (suc (h + h)) = omega arith in
    rw (e, int_pow_suc x (suc (h + h)), int_pow_suc x (h + h), power_of_square x h, int_pow_suc (x *ℤ x) h) (simp expand)
