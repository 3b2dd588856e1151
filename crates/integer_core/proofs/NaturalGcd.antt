-- The greatest common divisor of natural numbers, and of their odd parts.
use Rattle.integer_core.proofs.Common.{dvd-add_iff_right, dvd-mul_left, ◌≡◌, ◌+◌, ◌-◌, ◌*◌, ◌/◌, ◌%◌, ◌^◌, ◌≤◌, ℤ, pos, unsigned_abs, ℕ, zero, suc, inl, inr, sym, ◌∙◌, ap, subst, arith, mul-one, mul_comm, mul_assoc, pow-suc, pow-add, min, div-add-mod', dvd-mul_right_of_dvd, cases_lt, ints, IsGcd-swap, dvd_of_mod-eq-zero, dvd_trans, mod-eq-zero_of_dvd, IsGcd, ◌∣◌, IsGreatestCommonDivisor}
use Rattle.integer_core.proofs.CommonDivisors.{gcd_times, from_natural, to_natural}

-- the gcd of integers is that of their magnitudes
pub gcd_of_sizes : (a b : ℤ) {g : ℕ} → IsGcd (unsigned_abs a) (unsigned_abs b) g → IsGreatestCommonDivisor a b (pos g)
gcd_of_sizes a b h = grind (arith, ints, from_natural, unsigned_abs, to_natural)

-- a common factor comes out
natural_gcd_times : {a b g : ℕ} (k : ℕ) → IsGcd a b g → IsGcd (k * a) (k * b) (k * g)
natural_gcd_times {a} {b} k h =
    let x = gcd_times (pos k) (omega (arith, ints)) (gcd_of_sizes (pos a) (pos b) h) in
    (to_natural x.divides_left, to_natural x.divides_right, λ d p q. to_natural (x.greatest (pos d) (from_natural p) (from_natural q)))

-- an odd number that divides twice a number divides the number
odd_half : (e a : ℕ) → e % 2 ≡ 1 → e ∣ a * 2 → e ∣ a
odd_half e a odd h =
    let whole : a * e ≡ a * 2 * (e / 2) + a = omega (arith, ap (λ (x : ℕ). a * x) (rw odd at (div-add-mod' e 2))) in
    (dvd-add_iff_right e (dvd-mul_right_of_dvd e h (e / 2))).1 (rw whole at (dvd-mul_left e a))

pub odd_divides : (e a k : ℕ) → e % 2 ≡ 1 → e ∣ a * 2 ^ k → e ∣ a
odd_divides e a zero odd h = subst (λ (n : ℕ). e ∣ n) (mul-one a) h
odd_divides e a (suc k) odd h = odd_divides e a k odd (odd_half e (a * 2 ^ k) odd (subst (λ (n : ℕ). e ∣ n) (ap (λ (n : ℕ). a * n) (pow-suc 2 k) ∙ sym (mul_assoc a (2 ^ k) 2)) h))

pub odd_divisor : (d n : ℕ) → d ∣ n → n % 2 ≡ 1 → d % 2 ≡ 1
odd_divisor d n h odd = grind (arith, cases_lt, mod-eq-zero_of_dvd, dvd_trans, dvd_of_mod-eq-zero)

-- factors of two on one side do not matter if the other is odd
pub gcd_strip : {m n g : ℕ} (k : ℕ) → n % 2 ≡ 1 → IsGcd m n g → IsGcd (m * 2 ^ k) n g
gcd_strip {m} {n} {g} k odd h = (dvd-mul_right_of_dvd g h.0 (2 ^ k), h.1, λ d p q. h.2 d (odd_divides d m k (odd_divisor d n q odd) p) q)

gcd_shift_le : {m n g : ℕ} (i j : ℕ) → m % 2 ≡ 1 → i ≤ j → IsGcd m n g → IsGcd (m * 2 ^ i) (n * 2 ^ j) (g * 2 ^ i)
gcd_shift_le {m} {n} {g} i j odd less h =
    let more : i + (j - i) ≡ j = omega arith in
    let power = sym (pow-add 2 i (j - i)) ∙ ap (λ (x : ℕ). 2 ^ x) more in
    let right : n * 2 ^ j ≡ 2 ^ i * (n * 2 ^ (j - i)) = omega (arith, ap (λ (x : ℕ). n * x) power) in
    rw (mul_comm m (2 ^ i), right, mul_comm g (2 ^ i)) (natural_gcd_times (2 ^ i) (IsGcd-swap _ _ _ (gcd_strip (j - i) odd (IsGcd-swap _ _ _ h))))

-- the gcd of two numbers from that of their odd parts
pub gcd_of_odd_parts : {a b m n k g : ℕ} (i j : ℕ) → a ≡ m * 2 ^ i → b ≡ n * 2 ^ j → k ≡ min i j → m % 2 ≡ 1 → n % 2 ≡ 1 → IsGcd m n g → IsGcd a b (g * 2 ^ k)
gcd_of_odd_parts i j a_is b_is k_is m_odd n_odd h = rw (a_is, b_is, k_is) (elim (cases_lt i j) [
  | inl less ↦ let least : min i j ≡ i = omega arith in rw least (gcd_shift_le i j m_odd (omega arith) h)
  | inr more ↦ let least : min i j ≡ j = omega arith in rw least (IsGcd-swap _ _ _ (gcd_shift_le j i n_odd more (IsGcd-swap _ _ _ h)))
])
