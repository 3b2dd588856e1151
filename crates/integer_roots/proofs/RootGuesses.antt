-- Newton's step for the root of any degree, over natural numbers, and the guesses of the two loops, which stay above 1 and small.
use Rattle.integer_roots.proofs.Common.{◌≡◌, ◌+◌, ◌-◌, ◌*◌, ◌/◌, ◌%◌, ◌^◌, ◌<◌, ◌≤◌, pos, ℕ, zero, suc, arith, mul-le-mul_left, mul-le-mul_right, div-mul-le_self, pow-add, pow_mono, pow_pos, pow-succ', pow-le-pow_left, pow-le-pow_right, one_shl, inl, inr, refl, div-lt_iff_lt-mul, pow-zero, one-le-pow, add-mul-div_right, one-mul, lt_of_not-le, le-div, cases_lt, IsFloorRoot, Guess, Rising, Falling, square_step, guess_of, IsReached, begins, rises, goes_over, falls, newton_step}
use Rattle.integer_roots.proofs.Powers.{power_one, power_of_power, base_below, floor_root, highest_bit, power_two}

-- two differences that are not negative, q - p and t - r, have a product that is not
pub cross : (p q r t : ℕ) → p ≤ q → r ≤ t → p * t + q * r ≤ p * r + q * t
cross p q r t h k =
    let e : t ≡ r + (t - r) = omega arith in
    rw e (omega (arith, mul-le-mul_right (t - r) h))

-- of x and y and their powers, the sum of products is largest if each meets its own
cross_powers : (x y m : ℕ) → x * y ^ m + y * x ^ m ≤ x * x ^ m + y * y ^ m
cross_powers x y m = elim (cases_lt x y) [
  | inl h ↦ omega (arith, cross x y (x ^ m) (y ^ m) (omega arith) (pow-le-pow_left (omega arith) m))
  | inr h ↦ omega (arith, cross y x (y ^ m) (x ^ m) h (pow-le-pow_left h m))
]

-- the inequality of the arithmetic and geometric means, of one y and m times x
means : (x y m : ℕ) → (m + 1) * (y * x ^ m) ≤ y * y ^ m + m * (x * x ^ m)
means x y zero = rw (pow-zero x, pow-zero y) (omega arith)
means x y (suc m) =
    let crossed = rw (pow-succ' x m, pow-succ' y m) at (cross_powers x y (suc m)) in
    rw (pow-succ' x m, pow-succ' y m) (omega (arith, mul-le-mul_left x (means x y m), crossed))

-- a step y from the guess x, where m is one less than the degree
pub record IsNewtonStep (a n x y : ℕ) : Type 0 where
  pub m : ℕ
  pub degree : n ≡ suc m
  pub positive : 0 < x
  pub is : y ≡ (a / x ^ m + m * x) / n

-- a step is at least each z whose power is at most a
pub newton_least : {a n x y : ℕ} (z : ℕ) → IsNewtonStep a n x y → z ^ n ≤ a → z ≤ y
newton_least {a} {n} {x} z s h =
    let one : 0 < x ^ s.m = one-le-pow s.m x s.positive in
    let low : z * z ^ s.m ≤ a = rw (s.degree, pow-succ') at h in
    let quotient : (s.m + 1) * z ≤ (a + s.m * x * x ^ s.m) / x ^ s.m = le-div _ _ _ one (omega (arith, means x z s.m)) in
    rw (s.is, s.degree) (le-div z (a / x ^ s.m + s.m * x) (suc s.m) (omega arith) (omega (arith, quotient, add-mul-div_right a (s.m * x) one)))

-- it is below k times a guess whose power, k times, is above a
pub newton_below : {a n x y : ℕ} (k : ℕ) → IsNewtonStep a n x y → 0 < k → a < k * x ^ n → y < k * x
newton_below {a} {x = x} k s positive h =
    let up : a < k * (x * x ^ s.m) = rw (s.degree, pow-succ') at h in
    let quotient : a / x ^ s.m < k * x = (div-lt_iff_lt-mul (one-le-pow s.m x s.positive)).1 (omega arith) in
    rw (s.is, s.degree) ((div-lt_iff_lt-mul {k = suc s.m} (omega arith)).1 (omega (arith, quotient, mul-le-mul_right (s.m * x) positive)))

-- so the number after a step has a power above a
pub newton_above : {a n x y : ℕ} → IsNewtonStep a n x y → a < (y + 1) ^ n
newton_above {y = y} s = lt_of_not-le (λ h. omega (arith, newton_least (y + 1) s h))

-- a guess that is at most its step has a power of at most a
pub newton_stays : {a n x y : ℕ} → IsNewtonStep a n x y → x ≤ y → x ^ n ≤ a
newton_stays {a} {n} {x} s h =
    omega (arith, lt_of_not-le {n = a + 1} {m = x ^ n} (λ k. omega (arith, newton_below 1 s (omega arith) (omega arith))))

-- the step for a square root, and that for a cube root
pub square_step_is : (a x : ℕ) → square_step a x ≡ newton_step a 2 x
square_step_is a x = rw (power_one x, one-mul x) refl

pub cube_step_is : (a x : ℕ) → (a / (x * x) + 2 * x) / 3 ≡ newton_step a 3 x
cube_step_is a x = rw (power_two x) refl

-- ---- the guesses of the two loops, in integers

-- the iterations of the loops, for `grind`
pub ruleset newton_iterations = (begins, rises, goes_over, falls)

-- the numbers of a step fit
pub root_step_fits : (a n x : ℕ) → 2 ≤ n → n < 64 → a < 2 ^ 64 → 2 ≤ x → x ≤ 2 ^ 24 → a / x ^ (n - 1) + (n - 1) * x < 2 ^ 64
root_step_fits a n x degree few fits two small =
    let p : ℕ = x ^ (n - 1) in
    let power : x ^ 1 ≤ p = pow-le-pow_right (omega arith) {i = 1} {j = n - 1} (omega arith) in
    let product : (n - 1) * x ≤ 63 * x = mul-le-mul_right x (omega arith) in
    let half : a / p * 2 ≤ a / p * p = mul-le-mul_left (a / p) (omega (arith, power_one x)) in
    omega (arith, div-mul-le_self a p)

-- the step and the first guess of the loops that find the root of a of degree n, and a limit above that root
pub record IsStart (step : ℕ → ℕ → Type 0) (a n limit first : ℕ) : Type 0 where
  pub newton : (x y : ℕ) → step x y → y ≡ newton_step a n x
  pub degree : 0 < n
  pub power_le : 2 ^ n ≤ a
  pub limited : a < limit ^ n
  pub above_one : 2 ≤ first
  pub small : first ≤ 2 * limit
  pub near : a < 2 * first ^ n

-- the first guess has one bit, whose place is that of the number's highest, divided by the degree and rounded up
pub start : {step : ℕ → ℕ → Type 0} {a n limit : ℕ} (top place : ℕ) → ((x y : ℕ) → step x y → y ≡ newton_step a n x) → 0 < n → 2 ^ n ≤ a
    → top < 64 → (top ≤ place * n) × (place * n < top + n) → 2 ^ top ≤ a → a < 2 * 2 ^ top → a < limit ^ n
    → IsStart step a n limit (1 * 2 ^ place % 2 ^ 64)
start {a = a} {n = n} top zero newton degree power small place low high limited =
    absurd (omega (arith, highest_bit a n top power (omega (arith, pow-add 2 top 1))))
start {a = a} {n = n} {limit = limit} top (suc k) newton degree power small place low high limited =
    let half : 2 ^ k < limit = base_below (2 ^ k) limit n (omega (arith, power_of_power 2 k n, pow_mono {i = k * n} {j = top} (omega arith))) in
    rw (one_shl (suc k) 64 (omega (arith, mul-le-mul_left k degree))) (record {
      newton = newton;
      degree = degree;
      power_le = power;
      limited = limited;
      above_one = omega (arith, pow_pos k);
      small = omega arith;
      near = omega (arith, power_of_power 2 (suc k) n, pow_mono {i = top} {j = suc k * n} place.0);
    })

-- each iteration of the first loop steps up
rises_from_first : {step : ℕ → ℕ → Type 0} {first x iterations : ℕ} → IsReached step first (Rising x) iterations → first + iterations ≤ x
rises_from_first begins = omega arith
rises_from_first (rises reached is up) = omega (arith, rises_from_first reached)

-- so each guess that the loops reach is small, and the iterations are few
pub record IsInRange (limit x iterations : ℕ) : Type 0 where
  pub above_one : 2 ≤ x
  pub small : iterations + x ≤ 4 * limit

module _ {step : ℕ → ℕ → Type 0} {a n limit first : ℕ} (known : IsStart step a n limit first) where
  stepped : (x y : ℕ) → step x y → 2 ≤ x → IsNewtonStep a n x y
  stepped x y is above = record { m = n - 1; degree = omega (arith, known.degree); positive = omega arith; is = known.newton x y is }

  pub in_range : {guess : Guess} {iterations : ℕ} → IsReached step first guess iterations → IsInRange limit (guess_of guess) iterations
  in_range begins = record { above_one = known.above_one; small = omega (arith, known.small) }
  in_range (rises {x} {y} reached is up) =
      let v = in_range reached in
      let s = stepped x y is v.above_one in
      let far = rises_from_first reached in
      let power : first ^ n ≤ x ^ n = pow-le-pow_left (omega arith) n in
      let below = base_below x limit n (omega (arith, newton_stays s (omega arith), known.limited)) in
      record { above_one = omega (arith, v.above_one); small = omega (arith, newton_below 2 s (omega arith) (omega (arith, known.near))) }
  in_range (goes_over reached is down) = in_range reached
  in_range (falls {x} {y} reached is down) =
      let v = in_range reached in
      record { above_one = newton_least 2 (stepped x y is v.above_one) known.power_le; small = omega (arith, v.small) }

  -- no guess of the second loop is below the root
  above_root : {x iterations : ℕ} → IsReached step first (Falling x) iterations → a < (x + 1) ^ n
  above_root h = grind (arith, newton_above, stepped, in_range, pow-le-pow_left)

  -- so the guess at which they end is the root
  pub ended_at_root : {x iterations : ℕ} → IsReached step first (Falling x) iterations → (next : ℕ) × step x next × (x ≤ next) → IsFloorRoot (pos a) n (pos x)
  ended_at_root {x = x} reached (next, is, up) =
      floor_root (newton_stays (stepped x next is (in_range reached).above_one) up) (above_root reached)
