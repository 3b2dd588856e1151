-- The integer logarithm, by powers.
use Rattle.std.specs.Prelude.{◌+◌, ◌≤ℤ◌, ◌<ℤ◌, ℕ, ℤ}
use Rattle.std.specs.Int.{int_pow}

-- k is the logarithm of n to the base, rounded down. The power of the base of degree k is at most n, and the next power is greater than n.
-- Examples: of 1000 to the base 10: 3; of 999: 2; of 1: 0; none of 0.
pub record IsLogarithm (base n : ℤ) (k : ℕ) : Type 0 where
  pub power_le : int_pow base k ≤ℤ n
  pub next_power_gt : n <ℤ int_pow base (k + 1)
