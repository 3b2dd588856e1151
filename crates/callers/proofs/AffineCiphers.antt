-- What a byte decrypts to.
use Rattle.callers.proofs.Common.{AreCongruent, IsResidue, arith, congruent_difference, congruent_refl, congruent_sum, congruent_sym, congruent_trans, congruent_is_natural, ints, pos, pos-*ℤ-pos, sym, ℕ, ◌%◌, ◌*ℤ◌, ◌*◌, ◌+ℤ◌, ◌+◌, ◌-ℤ◌, ◌<◌, ◌↔◌, ◌∙◌, ◌≡◌}

-- x is encrypted to b exactly if f·x is the residue of b - s
pub is_decrypted : (f s x : ℕ) {m b : ℕ} → b < 256 → IsResidue (pos 256) (pos b -ℤ pos s) (pos m)
    → AreCongruent (pos 256) (pos f *ℤ pos x) (pos m) ↔ ((f * x + s) % 256 ≡ b)
is_decrypted f s x {b = b} below moved =
    let sum : pos f *ℤ pos x +ℤ pos s ≡ pos (f * x + s) = omega (arith, ints, pos-*ℤ-pos f x) in
    let rest : pos (f * x + s) -ℤ pos s ≡ pos f *ℤ pos x = omega (arith, ints, pos-*ℤ-pos f x) in
    let byte : pos b -ℤ pos s +ℤ pos s ≡ pos b = omega (arith, ints) in
    let itself : b % 256 ≡ b = omega arith in (
      (λ h. (congruent_is_natural (omega arith)).0 (rw (sum, byte) at (congruent_sum (congruent_trans h (congruent_sym moved.congruent)) (congruent_refl (pos s)))) ∙ itself),
      (λ e. congruent_trans (rw rest at (congruent_difference ((congruent_is_natural (omega arith)).1 (e ∙ sym itself)) (congruent_refl (pos s)))) moved.congruent),
    )
