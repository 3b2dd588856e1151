-- The operands of a call.
use Rattle.std.specs.Prelude.{ℤ, List, [], ◌∷◌}
use Rattle.intcalc_core.specs.declared.calls.Call.{Call}
use Rattle.intcalc_core.specs.declared.calls.Call.TheVariants.{DivRem, DivModFloor, DivFloor, DivCeil, ModFloor, NextMultipleOf, PrevMultipleOf, IsMultipleOf, Gcd, Lcm, GcdLcm, ExtendedGcd, AverageFloor, AverageCeil, Sqrt, Cbrt, NthRoot, Binomial, RatioAdd, RatioMul}

-- The operands of a call stand in the order of its fields.
-- Examples: `Gcd(4, 6)`: 4, 6; `Sqrt(9)`: 9; `RatioAdd(1, 2, 1, 3)`: 1, 2, 1, 3.
abbrev pub operands_of : Call → List ℤ
operands_of (DivRem n d) = n ∷ d ∷ []
operands_of (DivModFloor n d) = n ∷ d ∷ []
operands_of (DivFloor n d) = n ∷ d ∷ []
operands_of (DivCeil n d) = n ∷ d ∷ []
operands_of (ModFloor n d) = n ∷ d ∷ []
operands_of (NextMultipleOf n d) = n ∷ d ∷ []
operands_of (PrevMultipleOf n d) = n ∷ d ∷ []
operands_of (IsMultipleOf n d) = n ∷ d ∷ []
operands_of (Gcd a b) = a ∷ b ∷ []
operands_of (Lcm a b) = a ∷ b ∷ []
operands_of (GcdLcm a b) = a ∷ b ∷ []
operands_of (ExtendedGcd a b) = a ∷ b ∷ []
operands_of (AverageFloor a b) = a ∷ b ∷ []
operands_of (AverageCeil a b) = a ∷ b ∷ []
operands_of (Sqrt x) = x ∷ []
operands_of (Cbrt x) = x ∷ []
operands_of (NthRoot x n) = x ∷ n ∷ []
operands_of (Binomial n k) = n ∷ k ∷ []
operands_of (RatioAdd a b c d) = a ∷ b ∷ c ∷ d ∷ []
operands_of (RatioMul a b c d) = a ∷ b ∷ c ∷ d ∷ []
