-- Powers by squaring, modulo a number.
use Rattle.modular.proofs.Common.{◌≡◌, ◌≢◌, ◌+◌, ◌*◌, ◌/◌, ◌%◌, ◌<◌, ◌≤◌, ◌^◌, ◌*ℤ◌, ℤ, ℕ, pos, zero, suc, int_pow, arith, refl, subst, mul-le-mul_right, one-le-pow, pow-le-pow_right, two-pow-succ, comm, expand, int_pow_suc, int_pow_zero, mul-one, power_of_square, AreCongruent, add-one, int_pow_add}
use Rattle.modular.proofs.Congruences.{congruent_product, congruent_refl, congruent_trans}

-- ---- modulo a number

pub congruent_power : {m u v : ℤ} (n : ℕ) → AreCongruent m u v → AreCongruent m (int_pow u n) (int_pow v n)
congruent_power {u = u} {v = v} zero h = rw (int_pow_zero u, int_pow_zero v) (congruent_refl (pos 1))
congruent_power {u = u} {v = v} (suc n) h = rw (int_pow_suc u n, int_pow_suc v n) (congruent_product h (congruent_power n h))

-- what is left to do: the power of the square of degree rest, times the power so far
pub record Powering (m a : ℤ) (e : ℕ) (power square : ℤ) (rest : ℕ) : Type 0 where
  pub congruent : AreCongruent m (int_pow a e) (power *ℤ int_pow square rest)

pub powering_first : {m a one : ℤ} (e : ℕ) → AreCongruent m (pos 1) one → Powering m a e one a e
powering_first {a = a} e first =
    record { congruent = rw (comm (pos 1) (int_pow a e), mul-one (int_pow a e)) at (congruent_product first (congruent_refl (int_pow a e))) }

-- by the last binary digit, and by the square to the power of the half
by_last_digit : (power square : ℤ) (digit h : ℕ)
    → power *ℤ int_pow square (digit + (h + h)) ≡ (power *ℤ int_pow square digit) *ℤ int_pow (square *ℤ square) h
by_last_digit power square digit h = rw (int_pow_add square digit (h + h), power_of_square square h) (simp expand refl)

-- the power is multiplied if the last digit is 1
pub powering_iteration : {m a power square p s : ℤ} {e rest : ℕ} → Powering m a e power square rest
    → AreCongruent m (power *ℤ int_pow square (rest % 2)) p → AreCongruent m (square *ℤ square) s
    → Powering m a e p s (rest / 2)
powering_iteration {m} {a} {power} {square} {e = e} {rest = rest} h product next =
    let digits : rest ≡ rest % 2 + (rest / 2 + rest / 2) = omega arith in
    let whole = subst (λ (k : ℕ). AreCongruent m (int_pow a e) (power *ℤ int_pow square k)) digits h.congruent in
    let split = by_last_digit power square (rest % 2) (rest / 2) in
    record { congruent = congruent_trans (rw split at whole) (congruent_product product (congruent_power (rest / 2) next)) }

-- the product at a digit
pub times_at_one : {m r : ℤ} {digit : ℕ} (x y : ℤ) → digit ≡ 1 → AreCongruent m (x *ℤ y) r → AreCongruent m (x *ℤ int_pow y digit) r
times_at_one x y one h = rw (one, int_pow_suc y 0, int_pow_zero y, mul-one y) h

pub times_at_zero : {m : ℤ} {digit : ℕ} (x y : ℤ) → digit < 2 → digit ≢ 1 → AreCongruent m (x *ℤ int_pow y digit) x
times_at_zero x y few other = grind (arith, int_pow_zero, mul-one, congruent_refl)

-- ---- the iterations

-- the rest is e divided by 2 to the power of the iterations, rounded down; it is positive if e is, and at 0 there is no iteration
pub record Halved (e rest iterations : ℕ) : Type 0 where
  pub never : e ≡ 0 → iterations ≡ 0
  pub some : e ≢ 0 → 1 ≤ rest
  pub low : rest * 2 ^ iterations ≤ e
  pub high : e < suc rest * 2 ^ iterations

pub halved_iteration : {e rest iterations : ℕ} → Halved e rest iterations → 1 < rest → Halved e (rest / 2) (iterations + 1)
halved_iteration {e} {rest} {iterations} h more =
    let one = mul-le-mul_right {m = 1} {n = rest} (2 ^ iterations) (omega arith) in
    let below = mul-le-mul_right {m = rest / 2 + rest / 2} {n = rest} (2 ^ iterations) (omega arith) in
    let next : 2 ^ (iterations + 1) ≡ 2 ^ iterations + 2 ^ iterations = rw add-one (two-pow-succ iterations) in
    let above = mul-le-mul_right {m = suc rest} {n = suc (rest / 2) + suc (rest / 2)} (2 ^ iterations) (omega arith) in
    record {
      never = λ none. absurd (omega (arith, h.low, one-le-pow iterations 2 (omega arith)));
      some = λ other. omega arith;
      low = rw next (omega (arith, h.low));
      high = rw next (omega (arith, h.high));
    }

-- the iterations are fewer than the digits that hold the exponent
pub few_halvings : {e rest iterations : ℕ} (digits : ℕ) → Halved e rest iterations → 1 < rest → e < 2 ^ digits → iterations < digits
few_halvings {iterations = iterations} digits h more small = grind (arith, pow-le-pow_right)
