-- Multinomials.
use Rattle.std.specs.Prelude.{◌≡◌, ◌+◌, ◌*◌, ◌*ℤ◌, ℕ, ℤ, pos, unsigned_abs, List, [], ◌∷◌, map, sum}
use Rattle.num_integer.specs.Coefficient.{coefficient, factorial}

-- The product of a list.
-- Examples: that of 2, 3 and 4 is 24; that of no numbers is 1.
abbrev pub product : List ℕ → ℕ
product [] = 1
product (n ∷ ns) = n * product ns

-- m is the multinomial coefficient of the counts: m times the factorials of the counts is the factorial of their sum.
-- Examples: of 2, 1 and 2: 30; of 5: 1; of no counts: 1.
pub record IsMultinomial (counts : List ℤ) (m : ℤ) : Type 0 where
  pub factorials : m *ℤ pos (product (map factorial (map unsigned_abs counts)))
      ≡ pos (factorial (sum (map unsigned_abs counts)))

-- For each count, the coefficient of the sum so far, which begins with `before`, and the count.
-- Examples: from 0, of 2, 1 and 2: 1, 3 and 10.
unfoldable pub coefficients_from : ℕ → List ℕ → List ℕ
coefficients_from before [] = []
coefficients_from before (count ∷ counts) =
    coefficient (before + count) count ∷ coefficients_from (before + count) counts
