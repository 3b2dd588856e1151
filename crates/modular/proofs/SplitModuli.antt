-- Numbers modulo an odd number and modulo a power of two, joined to numbers modulo the product of the two.
use Rattle.modular.proofs.Common.{◌≡◌, ◌+◌, ◌-◌, ◌*◌, ◌/◌, ◌%◌, ◌^◌, ◌<◌, ◌≤◌, ◌+ℤ◌, ◌-ℤ◌, ◌*ℤ◌, ℤ, ℕ, pos, int_pow, trailing_zeros, w64, arith, mul-le-mul_left, mul-le-mul_right, pow-le-pow_right, ints, mod_below, pow_pos, bit_at-trailing_zeros, Divides, Divides_times, expand, linear, products, shift_back, AreCongruent, IsResidue, joined, represented, lt_of_not-le}
use Rattle.modular.proofs.Congruences.{congruent_divisor, congruent_product, congruent_refl, congruent_sum, congruent_sym, congruent_trans, congruent_by, residue_of_congruent}
use Rattle.modular.proofs.PowerIterations.{congruent_power}
use Rattle.modular.proofs.BelowModulus.{congruent-rest, natural_residue}
use Rattle.modular.proofs.WideProducts.{wrapped_difference}
use Rattle.modular.proofs.MontgomeryInverses.{inverse_congruent, low_divides}
use Rattle.modular.proofs.LinearCongruences.{solved_by}

-- ---- the odd part of a modulus, and its factors 2

pub odd_part : (n : ℕ) → 0 < n → n < 2 ^ 64 → n / 2 ^ trailing_zeros w64 n % 2 ≡ 1
odd_part n up fits = (bit_at-trailing_zeros w64 n up fits).1

pub parts_product : (n : ℕ) → n / 2 ^ trailing_zeros w64 n * 2 ^ trailing_zeros w64 n ≡ n
parts_product n = shift_back 64 n

pub few_twos : (m k : ℕ) → 0 < m → m * 2 ^ k < 2 ^ 64 → k < 64
few_twos m k up fits = lt_of_not-le (λ many. omega (arith, pow-le-pow_right {n = 2} (omega arith) many, mul-le-mul_right {m = 1} {n = m} (2 ^ k) up))

-- ---- congruences modulo both

-- if m has an inverse modulo w, numbers congruent modulo both are congruent modulo the product
congruent-both : {m w x y : ℤ} (i : ℤ) → AreCongruent w (m *ℤ i) (pos 1) → AreCongruent m x y → AreCongruent w x y → AreCongruent (m *ℤ w) x y
congruent-both {m} {w} i unit h k =
    let at_zero : AreCongruent w (m *ℤ h.divides.factor) (pos 0) =
    congruent_by k.divides.factor (omega (arith, linear, h.divides.product, k.divides.product)) in
    let same : h.divides.factor -ℤ pos 0 *ℤ i ≡ h.divides.factor = omega (arith, products) in
    record { divides = rw (← h.divides.product) at (Divides_times m (rw same at (solved_by m i unit at_zero).divides)) }

joined_apart : (m i r y : ℤ) → (r +ℤ (m *ℤ i) *ℤ (y -ℤ r)) -ℤ r ≡ m *ℤ (i *ℤ (y -ℤ r))
joined_apart m i r y = simp expand (omega (arith, linear))

joined_at_unit : (p r y : ℤ) {w : ℤ} → AreCongruent w p (pos 1) → AreCongruent w (r +ℤ p *ℤ (y -ℤ r)) y
joined_at_unit p r y unit =
    let whole : r +ℤ pos 1 *ℤ (y -ℤ r) ≡ y = omega (arith, products) in
    rw whole at (congruent_sum (congruent_refl r) (congruent_product unit (congruent_refl (y -ℤ r))))

-- the quotient that brings the residue r modulo m to y modulo a divisor d of the word w
quotient_low : (m i r y : ℕ) {d w : ℕ} → 0 < d → 0 < w → r ≤ w → Divides (pos d) (pos w) → AreCongruent (pos w) (pos m *ℤ pos i) (pos 1)
    → AreCongruent (pos d) (pos r +ℤ pos m *ℤ pos ((y + (w - r)) % w * i % w % d)) (pos y)
quotient_low m i r y {d} {w} d_up w_up small divides unit =
    let gap = congruent-rest (y + (w - r)) w_up (wrapped_difference y small) in
    let product = congruent-rest ((y + (w - r)) % w * i) w_up (congruent_product gap (congruent_refl (pos i))) in
    let quotient = congruent-rest ((y + (w - r)) % w * i % w) d_up (congruent_divisor divides product) in
    let apart : pos m *ℤ ((pos y -ℤ pos r) *ℤ pos i) ≡ (pos m *ℤ pos i) *ℤ (pos y -ℤ pos r) = simp expand in
    let sum = congruent_sum (congruent_refl (pos r)) (congruent_product (congruent_refl (pos m)) quotient) in
    congruent_trans (rw apart at sum) (congruent_divisor divides (joined_at_unit (pos m *ℤ pos i) (pos r) (pos y) unit))

-- ---- joined numbers; i is the inverse of m

module _ (m i : ℕ) (inverse : m * i % 2 ^ 64 ≡ 1) where
  unit : AreCongruent (pos (2 ^ 64)) (pos m *ℤ pos i) (pos 1)
  unit = inverse_congruent m i (omega arith) inverse

  joined_odd : (x y : ℕ) → AreCongruent (pos m) (joined m i x y) (represented m i x)
  joined_odd x y = congruent_by (pos i *ℤ (pos y -ℤ represented m i x)) (joined_apart (pos m) (pos i) (represented m i x) (pos y))

  joined_low : (x y : ℕ) → AreCongruent (pos (2 ^ 64)) (joined m i x y) (pos y)
  joined_low x y = joined_at_unit (pos m *ℤ pos i) (represented m i x) (pos y) unit

  -- the pair of z: the form of z modulo the odd factor, and its low bits
  pub joined_is : (x y : ℕ) {z : ℤ} → AreCongruent (pos m) z (represented m i x)
      → AreCongruent (pos (2 ^ 64)) z (pos y) → AreCongruent (pos (m * 2 ^ 64)) z (joined m i x y)
  joined_is x y odd low = congruent-both (pos i) unit (congruent_trans odd (congruent_sym (joined_odd x y))) (congruent_trans low (congruent_sym (joined_low x y)))

  -- the pair of a number that fits in 64 bits
  pub joined_of : (x y : ℕ) → AreCongruent (pos m) (pos y) (represented m i x) → AreCongruent (pos (m * 2 ^ 64)) (pos y) (joined m i x y)
  joined_of x y odd = joined_is x y odd (congruent_refl (pos y))

  -- the product of two
  pub joined_product : (x y u v r : ℕ) → AreCongruent (pos m) (represented m i x *ℤ represented m i u) (represented m i r)
      → AreCongruent (pos (m * 2 ^ 64)) (joined m i x y *ℤ joined m i u v) (joined m i r (y * v % 2 ^ 64))
  joined_product x y u v r h =
      joined_is r (y * v % 2 ^ 64) (congruent_trans (congruent_product (joined_odd x y) (joined_odd u v)) h)
      (congruent_trans (congruent_product (joined_low x y) (joined_low u v)) (natural_residue (y * v) (omega arith)).congruent)

  -- its residue modulo m times a power of two
  joined_residue : (x y k r q : ℕ) → k ≤ 64 → q < 2 ^ k → IsResidue (pos m) (represented m i x) (pos r)
      → AreCongruent (pos (2 ^ k)) (pos r +ℤ pos m *ℤ pos q) (pos y)
      → IsResidue (pos (m * 2 ^ k)) (joined m i x y) (pos (r + m * q))
  joined_residue x y k r q few small h low =
      let below = h.below.below in
      let most = mul-le-mul_left m small in
      let odd : AreCongruent (pos m) (pos r) (pos r +ℤ pos m *ℤ pos q) = congruent_sym (congruent_by (pos q) (omega (arith, linear))) in
      record {
        below = record { from_zero = omega (arith, ints); below = omega (arith, ints) };
        congruent = congruent-both (pos i) (congruent_divisor (low_divides k few) unit) (congruent_trans (joined_odd x y) (congruent_trans h.congruent odd))
            (congruent_trans (congruent_divisor (low_divides k few) (joined_low x y)) (congruent_sym low));
      }

  pub residue_joined : (x y k r : ℕ) → r < m → m * 2 ^ k < 2 ^ 64 → IsResidue (pos m) (represented m i x) (pos r)
      → IsResidue (pos (m * 2 ^ k)) (joined m i x y) (pos (r + m * ((y + (2 ^ 64 - r)) % 2 ^ 64 * i % 2 ^ 64 % (1 * 2 ^ k % 2 ^ 64))))
  residue_joined x y k r below fits h =
      let few = few_twos m k (omega arith) fits in
      let up = pow_pos k in
      let power_fits : 2 ^ k < 2 ^ 64 = omega (arith, mul-le-mul_right {m = 1} {n = m} (2 ^ k) (omega arith)) in
      let power : 1 * 2 ^ k % 2 ^ 64 ≡ 2 ^ k = omega arith in
      let small : r ≤ 2 ^ 64 = omega (arith, mul-le-mul_left m up) in
      rw power (joined_residue x y k r _ (omega arith) (mod_below _ (2 ^ k) up) h (quotient_low m i r y up (omega arith) small (low_divides k (omega arith)) unit))

  -- the residue of a power, from the pair of the base
  pub power_residue : (a e k : ℕ) {n r : ℕ} {base power : ℤ} → m * 2 ^ k ≡ n → k ≤ 64
      → AreCongruent (pos (m * 2 ^ 64)) (pos a) base → AreCongruent (pos (m * 2 ^ 64)) (int_pow base e) power
      → IsResidue (pos (m * 2 ^ k)) power (pos r) → IsResidue (pos n) (int_pow (pos a) e) (pos r)
  power_residue a e k n_is few at_base at_power h =
      let near = congruent_divisor (Divides_times (pos m) (low_divides k few)) (congruent_trans (congruent_power e at_base) at_power) in
      rw n_is at (residue_of_congruent near h)
