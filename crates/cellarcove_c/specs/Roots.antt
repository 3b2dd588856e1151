-- Square roots, with what is left.
use Rattle.std.specs.Prelude.{◌≡◌, ◌≤ℤ◌, ◌+ℤ◌, ◌*ℤ◌, ℤ, pos}
use Rattle.num_integer.specs.RootOf.{IsRoot}

-- The square root of x, rounded down, and what is left.
-- Examples: of 99: 9 and 18; of 81: 9 and 0.
pub record IsRootWithRest (x root rest : ℤ) : Type 0 where
  pub is_root : IsRoot x 2 root
  pub equation : x ≡ root *ℤ root +ℤ rest
  pub from_zero : pos 0 ≤ℤ rest
  pub at_most : rest ≤ℤ (root +ℤ root)
