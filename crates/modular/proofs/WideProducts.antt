-- Products of residues as magnitudes of 128 bits.
use Rattle.modular.proofs.Common.{◌≡◌, ◌↔◌, ◌+◌, ◌-◌, ◌*◌, ◌≤◌, ◌<ℤ◌, ◌-ℤ◌, ◌*ℤ◌, ℤ, ℕ, pos, unsigned_abs, Bool, IsTrue, not, int_pow, arith, ap, ints, beq, signed_is, sizes, signed, AreCongruent, IsResidue, signed_product}
use Rattle.modular.proofs.Congruences.{congruent_by, residue_of_congruent}
use Rattle.modular.proofs.PowerIterations.{congruent_power}

-- a wrapping difference
pub wrapped_difference : (x : ℕ) {u w : ℕ} → u ≤ w → AreCongruent (pos w) (pos (x + (w - u))) (pos x -ℤ pos u)
wrapped_difference x small = congruent_by (pos 1) (omega (arith, ints))

-- a residue modulo a positive number, by its magnitude
residue_by_magnitude : {m z : ℤ} {w p : ℕ} → pos 0 <ℤ m → w ≡ unsigned_abs m → IsResidue (pos w) z (pos p) → IsResidue m z (pos p)
residue_by_magnitude {m} {w = w} up size h = let m_is : pos w ≡ m = omega (arith, sizes) in rw m_is at h

-- the residue of a product, by signs and magnitudes
pub residue_by_magnitudes : (s t : Bool) (u v : ℕ) {w r : ℕ} {m a b : ℤ} → pos 0 <ℤ m
    → IsTrue s ↔ (a <ℤ pos 0) → IsTrue t ↔ (b <ℤ pos 0) → u ≡ unsigned_abs a → v ≡ unsigned_abs b
    → w ≡ unsigned_abs m
    → IsResidue (pos w) (signed (not (beq s t)) (u * v)) (pos r) → IsResidue m (a *ℤ b) (pos r)
residue_by_magnitudes s t u v up a_sign b_sign a_size b_size m_size h =
    rw (← signed_product s t u v, signed_is a_sign a_size, signed_is b_sign b_size) at (residue_by_magnitude up m_size h)

-- the power of a residue, by magnitudes
pub power_of_magnitudes : (u e : ℕ) {m a x : ℤ} {w p : ℕ} → pos 0 <ℤ m → IsResidue m a x → w ≡ unsigned_abs m → u ≡ unsigned_abs x
    → IsResidue (pos w) (int_pow (pos u) e) (pos p) → IsResidue m (int_pow a e) (pos p)
power_of_magnitudes u e {x = x} up at_a m_size x_size h =
    let x_is : pos u ≡ x = omega (arith, sizes, at_a.below.from_zero) in
    residue_of_congruent (congruent_power e at_a.congruent) (residue_by_magnitude up m_size (rw (ap (λ (t : ℤ). int_pow t e) x_is) at h))
