-- Factorials and falling factorials of integers.
use Rattle.std.specs.Prelude.{◌*◌, ℕ, ℤ, zero, suc, pos, unsigned_abs}
use Rattle.num_integer.specs.Coefficient.{factorial}

-- This is the falling factorial: the product n · (n - 1) · .. of k factors. It is the number of ways in which k of n things stand in a row.
-- Examples: of 5 and 2: 20; of 5 and 5: 120; of 5 and 0: 1; of 2 and 3: 0.
unfoldable pub falling : ℕ → ℕ → ℕ
falling n zero = 1
falling zero (suc k) = 0
falling (suc n) (suc k) = suc n * falling n k

-- This is the falling factorial of two integers that are not negative.
-- Examples: of 5 and 2: 20.
abbrev pub falling_of : ℤ → ℤ → ℤ
falling_of n k = pos (falling (unsigned_abs n) (unsigned_abs k))

-- This is the factorial of an integer that is not negative.
-- Examples: of 4: 24; of 0: 1.
abbrev pub factorial_of : ℤ → ℤ
factorial_of n = pos (factorial (unsigned_abs n))
