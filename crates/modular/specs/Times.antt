-- How many times a modulus is added to a number to reach another.
use Rattle.std.specs.Prelude.{◌≡◌, ◌≤ℤ◌, ◌+ℤ◌, ◌*ℤ◌, ℤ}
use Rattle.modular.specs.Congruences.{AreCongruent}

-- k is the smallest number of times that m is added to start to reach `from`.
-- Examples: from 10, start 1, m 4: 3; from -10, start 1, m 4: -2.
pub record IsTimesToReach (from start m k : ℤ) : Type 0 where
  pub from_there : from ≤ℤ (start +ℤ m *ℤ k)
  pub least : (j : ℤ) → from ≤ℤ (start +ℤ m *ℤ j) → k ≤ℤ j

-- t is start and m times the smallest k that is congruent to first modulo step and reaches `from`.
-- Examples: from 10, start 1, m 4, first 2, step 3: k is 5, and t is 21.
pub record IsNextInClass (from start m first step t : ℤ) : Type 0 where
  pub times : ℤ
  pub sum : t ≡ start +ℤ m *ℤ times
  pub from_there : from ≤ℤ t
  pub congruent : AreCongruent step times first
  pub least : (k : ℤ) → from ≤ℤ (start +ℤ m *ℤ k) → AreCongruent step k first → times ≤ℤ k
