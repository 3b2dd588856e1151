-- Residues of powers.
use Rattle.modular.proofs.Common.{◌≡◌, ◌+◌, ◌^◌, ◌%◌, ◌<◌, ◌*ℤ◌, ℕ, ℤ, pos, refl, int_pow, IsResidue, int_pow_add}
use Rattle.modular.proofs.BelowModulus.{residue_is_natural}
use Rattle.modular.proofs.Congruences.{residue_of_product, only_residue}
use Rattle.modular.specs.Laws as law

-- The residue of a power of a natural number is the remainder of the natural power.
pub power_is_natural : (m a e r : ℕ) → 0 < m → IsResidue (pos m) (int_pow (pos a) e) (pos r) → r ≡ a ^ e % m
power_is_natural m a e r up h = residue_is_natural {x = a ^ e} up h

-- The product of the residues of two powers of a number has the residue of the power whose exponent is the sum of theirs.
pub residue_of_exponent_sum : {m r s t : ℤ} (x : ℤ) (j k : ℕ) → IsResidue m (int_pow x j) r
    → IsResidue m (int_pow x k) s → IsResidue m (r *ℤ s) t → IsResidue m (int_pow x (j + k)) t
residue_of_exponent_sum x j k first second both = rw int_pow_add (residue_of_product first second refl both)

pub exponents_add : law.ExponentsAdd
exponents_add = λ m x j k r s whole product first second is both. only_residue is product (residue_of_exponent_sum x j k first second both)
