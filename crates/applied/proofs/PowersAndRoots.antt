-- Powers and their roots, the integer logarithm by division, and what is left of a square root.
use Rattle.num_integer.specs.RootOf.{IsFloorRoot, IsRoot}
use Rattle.num_integer.proofs.ForCallers.{even_power, exact_power_root, odd_power, power_of_one, power_of_zero, power_size, root_by_squares}
use Rattle.num_integer.proofs.FittingAnswers.{few_bits}
use Rattle.applied.specs.Powers.{IsLogarithm}
use Rattle.applied.proofs.Common.{◌≡◌, ◌≢◌, ◌⊎◌, ◌^◌, ◌≤◌, ◌<◌, ◌≤ℤ◌, ◌*ℤ◌, ◌+◌, ◌*◌, ◌/◌, ◌<ℤ◌, ◌+ℤ◌, ℕ, ℤ, pos, negsuc, neg_ℤ, suc, zero, unsigned_abs, int_pow, arith, ap, refl, subst, sym, pow_mono, ◌∙◌, pow-le-pow_left, by_lt_z, ints, linear, int_div, add-one, le_refl, le-div_iff_mul-le, div-lt_iff_lt-mul, pow-suc, div-div-eq-div-mul, one-le-pow, pow-le-pow_right, pow-succ', div_below, le-div, mul-le, IsRange, sizes, LogarithmIsOnly}

-- ---- roots of powers

power_of_floor_root : {x r : ℤ} {n : ℕ} → IsFloorRoot x n r → (pos 0 ≤ℤ int_pow r n) × (int_pow r n ≤ℤ x)
power_of_floor_root {r = pos a} h = (omega ints, h.power_le)
power_of_floor_root {r = negsuc a} h = absurd (omega (ints, h.from_zero))

-- the power of a root lies between 0 and the number
pub power_of_root_in_range : {x r : ℤ} {n : ℕ} → IsRoot x n r
    → ((pos 0 ≤ℤ int_pow r n) × (int_pow r n ≤ℤ x)) ⊎ ((x ≤ℤ int_pow r n) × (int_pow r n ≤ℤ pos 0))
power_of_root_in_range {x} {r} {n} h = grind (arith, by_lt_z, power_of_floor_root, odd_power, linear)

-- the power of the root of a power is the power
pub root_of_power_is_exact : {x r : ℤ} {n : ℕ} (k : ℤ) → n ≢ 0 → int_pow k n ≡ x → IsRoot x n r → int_pow r n ≡ x
root_of_power_is_exact {x} {r} {n} k nonzero e h =
    let size : unsigned_abs x ≡ unsigned_abs k ^ n = rw e at (power_size k n) in
    by_lt_z x (pos 0)
    (λ below.
    let odd = h.below_zero below in
    let root : IsRoot (pos (unsigned_abs k ^ n)) n (neg_ℤ r) = record {
      from_zero = λ _. subst (λ (t : ℤ). IsFloorRoot t n (neg_ℤ r)) (omega ints) odd.1;
      below_zero = λ under. absurd (omega ints);
    } in
    let power = rw (exact_power_root {k = unsigned_abs k} {n = n} nonzero root) at (odd_power r n odd.0) in
    omega ints)
    (λ up.
    let base = exact_power_root {k = unsigned_abs k} {n = n} nonzero (subst (λ (t : ℤ). IsRoot t n r) (omega ints) h) in
    rw base (omega ints))

-- ---- powers of high degrees

high_degree : (a d n : ℕ) → 64 ≤ d → n < 2 ^ 64 → a ^ d ≡ n → a ^ 2 ≡ n
high_degree zero d n high below e = power_of_zero 2 (omega arith) ∙ sym (power_of_zero d (omega arith)) ∙ e
high_degree (suc zero) d n high below e = power_of_one 2 ∙ sym (power_of_one d) ∙ e
high_degree (suc (suc a)) d n high below e =
    let bases : 2 ^ d ≤ suc (suc a) ^ d = pow-le-pow_left (omega arith) d in
    absurd (omega (arith, pow_mono {i = 64} {j = d} high))

-- below 2^64, a power of degree 64 or more is a square
pub high_power_is_square : (k : ℤ) (d n : ℕ) → 64 ≤ d → n < 2 ^ 64 → int_pow k d ≡ pos n → int_pow k 2 ≡ pos n
high_power_is_square k d n high below e =
    even_power k 2 refl ∙ ap pos (high_degree (unsigned_abs k) d n high below (sym (power_size k d) ∙ ap unsigned_abs e))

-- ---- a number that was divided by the base k times, each time rounded down

pub record IsDivided (base n rest : ℤ) (k : ℕ) : Type 0 where
  pub positive : pos 0 <ℤ rest
  pub is : unsigned_abs rest ≡ unsigned_abs n / unsigned_abs base ^ k

-- the quotient of positive numbers is that of natural numbers
natural_quotient : (a b : ℤ) → pos 0 <ℤ a → pos 1 <ℤ b → int_div a b ≡ pos (unsigned_abs a / unsigned_abs b)
natural_quotient (pos a) (pos b) up base_up = refl
natural_quotient (pos a) (negsuc b) up base_up = absurd (omega ints)
natural_quotient (negsuc a) b up base_up = absurd (omega ints)

pub divided_next : {base n rest : ℤ} {k : ℕ} → pos 1 <ℤ base → base ≤ℤ rest → IsDivided base n rest k → IsDivided base n (int_div rest base) (k + 1)
divided_next {base} {n} {rest} {k} base_up enough h =
    let some = le-div 1 (unsigned_abs rest) (unsigned_abs base) (omega sizes) (omega sizes) in
    rw (natural_quotient rest base (omega linear) base_up) (record {
      positive = omega linear;
      is = rw (h.is, add-one k, pow-suc (unsigned_abs base) k) (div-div-eq-div-mul (unsigned_abs n) (unsigned_abs base ^ k) (unsigned_abs base));
    })

-- each division by a base of at least 2 makes a positive number smaller
pub divided_smaller : (base rest : ℤ) → pos 1 <ℤ base → pos 0 <ℤ rest → unsigned_abs (int_div rest base) < unsigned_abs rest
divided_smaller base rest base_up rest_up =
    let twice = mul-le (unsigned_abs rest) 2 (unsigned_abs rest) (unsigned_abs base) (le_refl (unsigned_abs rest)) (omega sizes) in
    rw (natural_quotient rest base rest_up base_up)
    (div_below (unsigned_abs rest) (unsigned_abs base) (unsigned_abs rest) (omega sizes) (omega sizes))

power_at_most : {base n rest : ℤ} {k : ℕ} → pos 1 <ℤ base → IsDivided base n rest k → unsigned_abs base ^ k ≤ unsigned_abs n
power_at_most {base} {n} {rest} {k} base_up h =
    let some : 1 ≤ unsigned_abs n / unsigned_abs base ^ k = omega (sizes, h.is, h.positive) in
    omega (arith, (le-div_iff_mul-le {x = 1} {y = unsigned_abs n} (one-le-pow k (unsigned_abs base) (omega sizes))).0 some)

-- the divisions of a number of a type are fewer than 128
pub few_divisions : {fits : ℤ → Type 0} {low high base n rest : ℤ} {k : ℕ} → IsRange fits low high → fits n → pos 0 <ℤ n → pos 1 <ℤ base
    → IsDivided base n rest k → k < 128
few_divisions {base = base} {n = n} {k = k} range n_fits up base_up h =
    let twos : 2 ^ k ≤ unsigned_abs base ^ k = pow-le-pow_left (omega sizes) k in
    let same : n ≡ pos (unsigned_abs n) = omega sizes in
    few_bits k (unsigned_abs n) range (rw (← same) n_fits) (omega (arith, power_at_most base_up h))

pub divided_last : {base n rest : ℤ} {k : ℕ} → pos 1 <ℤ base → pos 0 <ℤ n → rest <ℤ base → IsDivided base n rest k → IsLogarithm base n k
divided_last {base = pos b} {n = pos n} {k = k} base_up up less h =
    let below = (div-lt_iff_lt-mul {x = n} {y = b} (one-le-pow k b (omega ints))).0 (omega (sizes, h.is, h.positive)) in
    let next : b ^ (k + 1) ≡ b * b ^ k = rw (add-one k) (pow-succ' b k) in
    record { power_le = omega (ints, power_at_most base_up h); next_power_gt = omega ints }
divided_last {base = pos b} {n = negsuc n} base_up up less h = absurd (omega ints)
divided_last {base = negsuc b} base_up up less h = absurd (omega ints)

-- ---- only one number is the logarithm

not_below : {base n : ℤ} {k j : ℕ} → pos 1 <ℤ base → IsLogarithm base n k → IsLogarithm base n j → ¬ (k < j)
not_below {base = pos b} {k = k} {j = j} up h other less = grind (arith, pow-le-pow_right, ints)
not_below {base = negsuc b} up h other less = omega ints

pub logarithm_is_only : LogarithmIsOnly
logarithm_is_only = λ base n k up h j other. grind (arith, not_below up h other, not_below up other h)

-- ---- what is left of a square root

pub square_rest : {x r : ℤ} → pos 0 ≤ℤ x → IsRoot x 2 r → (pos 0 ≤ℤ (r *ℤ r)) × ((r *ℤ r) ≤ℤ x) × (x ≤ℤ (r *ℤ r +ℤ (r +ℤ r)))
square_rest {x = pos a} {r = pos b} up h = let squares = root_by_squares h in (omega ints, omega ints, omega ints)
square_rest {x = pos a} {r = negsuc b} up h = absurd (omega (ints, (h.from_zero up).from_zero))
square_rest {x = negsuc a} {r = r} up h = absurd (omega ints)
