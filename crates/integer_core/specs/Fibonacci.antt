-- The Fibonacci numbers.
use Rattle.std.specs.Prelude.{ℕ, zero, suc, ◌+◌}

-- The Fibonacci numbers are 0, 1, 1, 2, 3, 5 and so on, each the sum of the two before.
-- Examples: of 1: 1; of 2: 1; of 7: 13.
abbrev pub fibonacci : ℕ → ℕ
fibonacci zero = 0
fibonacci (suc zero) = 1
fibonacci (suc (suc n)) = fibonacci (suc n) + fibonacci n
