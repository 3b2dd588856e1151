-- Pascal's triangle.
use Rattle.num_integer.proofs.Common.{◌≡◌, ◌+◌, ◌-◌, ◌*◌, ◌^◌, ◌<◌, ◌≤◌, ℕ, zero, suc, min, inl, inr, ap, refl, arith, mul-le-mul_right, le_refl, le_trans, cases_lt, eq_of_mul-eq-mul_left, le_of_mul-le-mul_left, mul-pos, pow-succ'}
use Rattle.num_integer.specs.Coefficient.{coefficient, factorial}

-- there is one way to choose no things
pub coefficient_zero : (n : ℕ) → coefficient n 0 ≡ 1
unfolding coefficient
coefficient_zero n = refl

-- there is no way to choose more things than there are
pub none_above : (n k : ℕ) → n < k → coefficient n k ≡ 0
unfolding coefficient
none_above n zero h = absurd (omega arith)
none_above zero (suc k) h = refl
none_above (suc n) (suc k) h = omega (arith, none_above n k (omega arith), none_above n (suc k) (omega arith))

-- there is a way to choose at most as many as there are
pub coefficient_pos : (n k : ℕ) → k ≤ n → 0 < coefficient n k
unfolding coefficient
coefficient_pos n zero h = omega arith
coefficient_pos zero (suc k) h = absurd (omega arith)
coefficient_pos (suc n) (suc k) h = omega (arith, coefficient_pos n k (omega arith))

-- the absorption rule
absorb : (n k : ℕ) → suc k * coefficient (suc n) (suc k) ≡ suc n * coefficient n k
unfolding coefficient
absorb zero zero = omega arith
absorb zero (suc k) = omega arith
absorb (suc n) zero = omega (arith, absorb n zero)
absorb (suc n) (suc k) = omega (arith, absorb n k, absorb n (suc k))

-- the next coefficient of a row, multiplied across
pub next_in_row : (n k : ℕ) → k ≤ n → suc k * coefficient n (suc k) ≡ (n - k) * coefficient n k
unfolding coefficient
next_in_row n k h = let e : (n - k) + suc k ≡ suc n = omega arith in omega (arith, absorb n k, ap (λ (m : ℕ). m * coefficient n k) e)

-- before the middle the next coefficient is at least as large
grows : (n k : ℕ) → suc (k + k) ≤ n → coefficient n k ≤ coefficient n (suc k)
grows n k h =
    let f : suc k * coefficient n k ≤ (n - k) * coefficient n k = mul-le-mul_right (coefficient n k) (omega arith) in
    le_of_mul-le-mul_left {m = coefficient n k} {n = coefficient n (suc k)} {k = suc k} (omega (arith, next_in_row n k (omega arith))) (omega arith)

-- up to the middle a row rises
pub rises : (n k m : ℕ) → k ≤ m → m + m ≤ n → coefficient n k ≤ coefficient n m
rises n k zero h l = grind arith
rises n k (suc m) h l = grind (arith, cases_lt m k, rises n k m, grows n m)

-- up to the middle a coefficient is at least a power of two
power_below : (n k : ℕ) → k + k ≤ n → 2 ^ k ≤ coefficient n k
unfolding coefficient
power_below n zero h = omega arith
power_below zero (suc k) h = absurd (omega arith)
power_below (suc n) (suc k) h = omega (arith, power_below n k (omega arith), grows n k (omega arith), pow-succ' 2 k)

-- a coefficient divides factorials, multiplied across
pub divides_factorials : (n k : ℕ) → k ≤ n → factorial k * factorial (n - k) * coefficient n k ≡ factorial n
unfolding factorial
divides_factorials n zero h = let e : n - 0 ≡ n = omega arith in rw (coefficient_zero n) (omega (arith, ap factorial e))
divides_factorials zero (suc k) h = absurd (omega arith)
divides_factorials (suc n) (suc k) h =
    let e : suc n - suc k ≡ n - k = omega arith in
    let f = ap (λ (t : ℕ). factorial k * factorial (n - k) * t) (absorb n k) in
    rw e (omega (arith, ap (λ (t : ℕ). suc n * t) (divides_factorials n k (omega arith))))

-- a factorial is positive
pub factorial_pos : (n : ℕ) → 0 < factorial n
unfolding factorial
factorial_pos zero = omega arith
factorial_pos (suc n) = omega (arith, mul-le-mul_right (suc n) (factorial_pos n))

-- to choose k of n things is to leave n - k of them
pub coefficient_mirror : (n k : ℕ) → k ≤ n → coefficient n k ≡ coefficient n (n - k)
coefficient_mirror n k h =
    let e : n - (n - k) ≡ k = omega arith in
    let other = rw e at (divides_factorials n (n - k) (omega arith)) in
    eq_of_mul-eq-mul_left (factorial k * factorial (n - k)) (mul-pos (factorial_pos k) (factorial_pos (n - k))) _ _ (omega (arith, divides_factorials n k h))

-- the smaller of k and n - k has the coefficient of k
pub nearer_same : (n k m : ℕ) → k ≤ n → m ≡ min k (n - k) → coefficient n m ≡ coefficient n k
nearer_same n k m h is = grind (arith, coefficient_mirror)

-- no coefficient on the way to it is larger
pub below_answer : (n k m : ℕ) → k ≤ n → m ≤ min k (n - k) → coefficient n m ≤ coefficient n k
below_answer n k m h l = rw (← nearer_same n k _ h refl) (rises n m (min k (n - k)) l (omega arith))

-- so a sum of two numbers is at most what bounds them and its coefficient
pub sum_at_most : (s t k most : ℕ) → s ≡ t + k → t ≤ most → k ≤ most → coefficient s k ≤ most → s ≤ most
sum_at_most s t k most is t_below k_below below =
    let one = rw (coefficient_zero s) at (next_in_row s 0 (omega arith)) in grind (arith, below_answer s k 1)

-- and the result is at least that power of two
pub power_below_answer : (n k m : ℕ) → k ≤ n → m ≤ min k (n - k) → 2 ^ m ≤ coefficient n k
power_below_answer n k m h l = le_trans (power_below n m (omega arith)) (below_answer n k m h l)

-- ---- Pascal's rule, and coefficients out of more things

-- Pascal's rule
pub pascal : (n k : ℕ) → coefficient (suc n) (suc k) ≡ coefficient n k + coefficient n (suc k)
unfolding coefficient
pascal n k = refl

one_thing_more : (n k : ℕ) → coefficient n k ≤ coefficient (suc n) k
one_thing_more n zero = omega (arith, coefficient_zero n, coefficient_zero (suc n))
one_thing_more n (suc k) = omega (arith, pascal n k)

-- more things have at least as many choices
pub coefficient_grows : (n m k : ℕ) → n ≤ m → coefficient n k ≤ coefficient m k
coefficient_grows n zero k h = let e : n ≡ 0 = omega arith in rw e (le_refl _)
coefficient_grows n (suc m) k h = elim (cases_lt m n) [
  | inl top ↦ let e : n ≡ suc m = omega arith in rw e (le_refl _)
  | inr below ↦ le_trans (coefficient_grows n m k below) (one_thing_more m k)
]
