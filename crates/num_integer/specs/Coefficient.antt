-- Binomial coefficients and factorials.
use Rattle.std.specs.Prelude.{◌+◌, ◌*◌, ℕ, ℤ, zero, suc, pos, unsigned_abs}

-- The binomial coefficient of n and k, by Pascal's rule.
-- Examples: that of 4 and 2 is 6; that of 4 and 0 is 1; that of 2 and 3 is 0.
unfoldable pub coefficient : ℕ → ℕ → ℕ
coefficient n zero = 1
coefficient zero (suc k) = 0
coefficient (suc n) (suc k) = coefficient n k + coefficient n (suc k)

-- The coefficient of two integers that are not negative.
-- Examples: that of 4 and 2 is 6.
abbrev pub coefficient_of : ℤ → ℤ → ℤ
coefficient_of n k = pos (coefficient (unsigned_abs n) (unsigned_abs k))

-- The product of the numbers from 1 to n.
-- Examples: that of 4 is 24; that of 0 is 1.
unfoldable pub factorial : ℕ → ℕ
factorial zero = 1
factorial (suc n) = suc n * factorial n
