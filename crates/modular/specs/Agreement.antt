-- Congruences that have common solutions.
use Rattle.std.specs.Prelude.{ℤ, List, [], ◌∷◌}
use Rattle.std.specs.List.{All}
use Rattle.num_integer.specs.Divisors.{IsGreatestCommonDivisor}
use Rattle.modular.specs.Congruences.{AreCongruent}

-- a and b are congruent modulo the greatest common divisor of m and n.
-- Examples: 1 modulo 4 and 3 modulo 6, as 2 divides 3 - 1; not: 1 modulo 4 and 2 modulo 6.
pub record Agree (a m b n : ℤ) : Type 0 where
  pub congruent : (g : ℤ) → IsGreatestCommonDivisor m n g → AreCongruent g a b

-- The congruence a modulo m agrees with that of each other item. The functions give the residue and the modulus of an item.
-- Examples: 1 modulo 4 with 3 modulo 6 and 0 modulo 7.
abbrev pub AgreesWithEach : {C : Type 0} → (C → ℤ) → (C → ℤ) → ℤ → ℤ → List C → Type 0
AgreesWithEach residue modulus a m others = All (λ c. Agree a m (residue c) (modulus c)) others

-- Every two of the congruences agree.
-- Examples: 1 modulo 4, 3 modulo 6 and 0 modulo 7; not: 1 modulo 4, 3 modulo 6 and 0 modulo 2.
abbrev pub AgreeInPairs : {C : Type 0} → (C → ℤ) → (C → ℤ) → List C → Type 0
AgreeInPairs residue modulus [] = Unit {0}
AgreeInPairs residue modulus (c ∷ others) = AgreesWithEach residue modulus (residue c) (modulus c) others × AgreeInPairs residue modulus others
