-- Powers by products and squares.
use Rattle.std.specs.Prelude.{◌≡◌, ◌≢◌, ◌+◌, ◌^◌, ◌<◌, ◌≤◌, ◌*ℤ◌, ℤ, ℕ}
use Rattle.modular.specs.Below.{LiesBelow}
use Rattle.modular.specs.Congruences.{IsResidue}

-- The function may be called with residues modulo m, and returns the residue of their product.
-- Examples: x * y % 7 at u64, with m 7.
pub record MultipliesResidues {T : Type 0} (value : T → ℤ) (m : ℤ) (MayMultiply : T → T → Type 0) (Gives : T → T → T → Type 0) : Type 0 where
  pub may_multiply : (x y : T) → LiesBelow m (value x) → LiesBelow m (value y) → MayMultiply x y
  pub residue : (x y r : T) → LiesBelow m (value x) → LiesBelow m (value y) → Gives x y r → IsResidue m (value x *ℤ value y) (value r)

-- The number of iterations is the binary logarithm of the exponent, rounded down. It is 0 at the exponent 0.
-- Examples: exponent 0: 0; exponent 1: 0; exponent 5: 2.
pub record IsIterationCount (exponent iterations : ℕ) : Type 0 where
  pub no_iteration : exponent ≡ 0 → iterations ≡ 0
  pub logarithm : exponent ≢ 0 → (2 ^ iterations ≤ exponent) × (exponent < 2 ^ (iterations + 1))
