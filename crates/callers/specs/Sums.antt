-- Sums of fractions.
use Rattle.std.specs.Prelude.{◌+ℤ◌, ◌*ℤ◌, ℤ, pos, List, fold}
use Rattle.ratio64.specs.Ratio.{den_of, num_of}
use Rattle.ratio64.specs.declared.fraction.Ratio.{Ratio}

-- This is the sum of the fractions, as a numerator and a denominator that need not be in lowest terms.
-- Examples: 1/2, 1/3: 5, 6; 1/2, 1/2: 4, 4; no fractions: 0, 1.
abbrev pub sum_of : List Ratio → ℤ × ℤ
sum_of fractions = fold (λ s x. (s.0 *ℤ den_of x +ℤ num_of x *ℤ s.1, s.1 *ℤ den_of x)) (pos 0, pos 1) fractions
