-- Offsets on an alignment.
use Rattle.std.specs.Prelude.{◌≤ℤ◌, ℤ}
use Rattle.num_integer.specs.Divisors.{Divides}

-- The number is the smallest multiple of the alignment that is at least the offset.
-- Examples: 13 and 8: 16; 16 and 8: 16; -13 and 8: -8.
pub record IsAlignedUp (offset alignment aligned : ℤ) : Type 0 where
  pub from_offset : offset ≤ℤ aligned
  pub multiple : Divides alignment aligned
  pub least : (other : ℤ) → offset ≤ℤ other → Divides alignment other → aligned ≤ℤ other
