-- Inverses modulo 2 ^ 64, by Newton's steps.
use Rattle.modular.proofs.Common.{◌≡◌, ◌+◌, ◌-◌, ◌*◌, ◌/◌, ◌%◌, ◌^◌, ◌<◌, ◌≤◌, ◌-ℤ◌, ◌*ℤ◌, ◌∙◌, ℤ, ℕ, pos, arith, ap, inl, inr, sym, cases_lt, mod_below, pow-add, Divides, expand, products, AreCongruent, Divides_refl, Divides_trans, mod-eq_of_lt, linear}
use Rattle.modular.proofs.Congruences.{congruent_difference, congruent_divisor, congruent_product, congruent_refl, congruent_sym, congruent_trans, congruent_by, divides_product}
use Rattle.modular.proofs.BelowModulus.{congruent-rest, natural_residue, congruent_is_natural}
use Rattle.modular.proofs.WideProducts.{wrapped_difference}

-- an odd number is its own inverse modulo 8
odd_square : (m g k f : ℕ) → m ≡ g * 4 + k → (g * 4 + k) * (g * 4 + k) ≡ 8 * f + 1 → AreCongruent (pos 8) (pos m *ℤ pos m) (pos 1)
odd_square m g k f is square = congruent_by (pos f) (grind arith)

pub odd_inverse : (m : ℕ) → m % 2 ≡ 1 → AreCongruent (pos (2 ^ 3)) (pos m *ℤ pos m) (pos 1)
odd_inverse m odd = let g : ℕ = m / 4 in elim (cases_lt (m % 4) 2) [
  | inl low ↦ odd_square m g 1 (g * g * 2 + g) (omega arith) (omega arith)
  | inr high ↦ odd_square m g 3 (g * g * 2 + 3 * g + 1) (omega arith) (omega arith)
]

square_apart : (y : ℤ) → (y -ℤ pos 1) *ℤ (y -ℤ pos 1) ≡ pos 1 -ℤ y *ℤ (pos 2 -ℤ y)
square_apart y = simp expand (omega (arith, products))

-- from the inverse modulo d to that modulo a divisor of its square
newton : (m x : ℤ) {d e next : ℤ} → Divides e (d *ℤ d) → AreCongruent d (m *ℤ x) (pos 1)
    → AreCongruent e next (x *ℤ (pos 2 -ℤ m *ℤ x)) → AreCongruent e (m *ℤ next) (pos 1)
newton m x divides h step =
    let first : (m *ℤ x) *ℤ (pos 2 -ℤ m *ℤ x) ≡ m *ℤ (x *ℤ (pos 2 -ℤ m *ℤ x)) = simp expand (omega (arith, linear)) in
    let near = rw (square_apart (m *ℤ x), first) at (Divides_trans divides (divides_product h.divides h.divides)) in
    congruent_trans (congruent_product (congruent_refl m) step) (congruent_sym (record { divides = near }))

-- a lower power of two divides 2 ^ 64
pub low_divides : (k : ℕ) → k ≤ 64 → Divides (pos (2 ^ k)) (pos (2 ^ 64))
low_divides k few =
    let whole : k + (64 - k) ≡ 64 = omega arith in
    record { factor = pos (2 ^ (64 - k)); product = ap pos (sym (ap (λ (n : ℕ). 2 ^ n) whole) ∙ pow-add 2 k (64 - k)) }

-- the inverse by a remainder, and by a congruence
pub inverse_remainder : (m i : ℕ) {w : ℕ} → 1 < w → AreCongruent (pos w) (pos m *ℤ pos i) (pos 1) → m * i % w ≡ 1
inverse_remainder m i up h = (congruent_is_natural {x = m * i} {y = 1} (omega arith)).0 h ∙ mod-eq_of_lt up

pub inverse_congruent : (m i : ℕ) {w : ℕ} → 0 < w → m * i % w ≡ 1 → AreCongruent (pos w) (pos m *ℤ pos i) (pos 1)
inverse_congruent m i up one = rw one at (natural_residue (m * i) up).congruent

-- wrapping operations, modulo the word
step_wrapped : (m x w : ℕ) → 0 < w → AreCongruent (pos w) (pos (x * ((2 + (w - m * x % w)) % w) % w)) (pos x *ℤ (pos 2 -ℤ pos m *ℤ pos x))
step_wrapped m x w up =
    let product = congruent-rest (m * x) up (congruent_refl (pos m *ℤ pos x)) in
    let gap = congruent_trans (wrapped_difference 2 (omega (arith, mod_below (m * x) w up))) (congruent_difference (congruent_refl (pos 2)) product) in
    let factor = congruent-rest (2 + (w - m * x % w)) up gap in
    congruent-rest (x * ((2 + (w - m * x % w)) % w)) up (congruent_product (congruent_refl (pos x)) factor)

-- from the inverse modulo 2 ^ k to that modulo 2 ^ (k + k)
pub inverse_doubled : (m x k : ℕ) → k ≤ 32 → AreCongruent (pos (2 ^ k)) (pos m *ℤ pos x) (pos 1)
    → AreCongruent (pos (2 ^ (k + k))) (pos m *ℤ pos (x * ((2 + (2 ^ 64 - m * x % 2 ^ 64)) % 2 ^ 64) % 2 ^ 64)) (pos 1)
inverse_doubled m x k few h =
    let square : Divides (pos (2 ^ (k + k))) (pos (2 ^ k) *ℤ pos (2 ^ k)) = rw pow-add (Divides_refl (pos (2 ^ k * 2 ^ k))) in
    newton (pos m) (pos x) square h (congruent_divisor (low_divides (k + k) (omega arith)) (step_wrapped m x (2 ^ 64) (omega arith)))
