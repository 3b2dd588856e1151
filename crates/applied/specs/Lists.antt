-- Greatest common divisors and least common multiples of lists, by divisibility alone.
use Rattle.std.specs.Prelude.{◌≤ℤ◌, ℤ, pos, negsuc, List}
use Rattle.std.specs.List.{All}
use Rattle.num_integer.specs.Divisors.{Divides}
use Rattle.num_integer.specs.Range.{EachFits}

-- g is at least 0, divides each number of the list, and each number that divides all of them divides g.
-- Examples: 12, 18, 8: 2; -4: 4; 0, 5: 5; the empty list: 0.
pub record IsGreatestCommonDivisorOf (numbers : List ℤ) (g : ℤ) : Type 0 where
  pub from_zero : pos 0 ≤ℤ g
  pub divides_each : All (λ x. Divides g x) numbers
  pub greatest : (d : ℤ) → All (λ x. Divides d x) numbers → Divides d g

-- l is at least 0, each number of the list divides it, and it divides each number that all of them divide.
-- Examples: 4, 6, 10: 60; -4: 4; 0, 5: 0; the empty list: 1.
pub record IsLeastCommonMultipleOf (numbers : List ℤ) (l : ℤ) : Type 0 where
  pub from_zero : pos 0 ≤ℤ l
  pub each_divides : All (λ x. Divides x l) numbers
  pub least : (m : ℤ) → All (λ x. Divides x m) numbers → Divides l m

-- The greatest common divisor of the list fits. Only a type that has -1 has to meet this. Any other type has the greatest common divisor of any of
-- its numbers.
-- Examples: in u8: each list, such as 255, 0; in i8: -128, 0, 6; not -128, 0.
abbrev pub GcdOfFits : (ℤ → Type 0) → List ℤ → Type 0
GcdOfFits fits numbers = fits (negsuc 0) → EachFits fits (IsGreatestCommonDivisorOf numbers)
