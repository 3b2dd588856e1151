-- Powers of degree 0.
use Rattle.cellarcove_c.proofs.Common.{◌≡◌, ◌↔◌, ℕ, ℤ, pos, int_pow, ◌∙◌, sym, int_pow_zero}

-- 1 is one, and no other number
pub is_zeroth_power : (x : ℤ) (degree : ℕ) → degree ≡ 0 → (x ≡ pos 1) ↔ ((k : ℤ) × (int_pow k degree ≡ x))
is_zeroth_power x degree zeroth = (
  λ one. (pos 0, rw zeroth (int_pow_zero (pos 0) ∙ sym one)),
  λ (k, power). let one : int_pow k degree ≡ pos 1 = rw zeroth (int_pow_zero k) in sym power ∙ one,
)
