-- Sums of divisors, by divisibility alone.
use Rattle.std.specs.Prelude.{◌≡◌, ◌⊎◌, ◌+◌, ℕ, pos, zero, suc}
use Rattle.integer_core.specs.Divisors.{Divides}

-- total is the sum of those numbers from 1 to k that divide n.
-- Examples: n 28: k 0: 0; k 4: 7; k 28: 56; n 0, k 3: 6.
unfoldable pub IsSumOfDivisorsTo : ℕ → ℕ → ℕ → Type 0
IsSumOfDivisorsTo n zero total = total ≡ 0
IsSumOfDivisorsTo n (suc k) total = (before : ℕ) × IsSumOfDivisorsTo n k before
    × ((Divides (pos (suc k)) (pos n) × (total ≡ before + suc k)) ⊎ ((¬ (Divides (pos (suc k)) (pos n))) × (total ≡ before)))

-- total is the sum of the positive divisors of n, which is not 0.
-- Examples: 28: 56; 1: 1; 7: 8.
abbrev pub IsSumOfDivisors : ℕ → ℕ → Type 0
IsSumOfDivisors n total = IsSumOfDivisorsTo n n total
