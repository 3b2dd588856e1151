-- Divisors, common divisors and common multiples of integers, by divisibility alone.
use Rattle.std.specs.Prelude.{◌≡◌, ◌≤ℤ◌, ◌*ℤ◌, ℤ, pos, negsuc}
use Rattle.integer_core.specs.Range.{EachFits}

-- v is u times some integer, so 0 divides only 0.
-- Examples: 3 divides 9; 9 does not divide 3; 0 divides 0 and nothing else.
pub record Divides (u v : ℤ) : Type 0 where
  pub factor : ℤ
  pub product : v ≡ u *ℤ factor

-- 2 divides v.
-- Examples: 0; -128; not 3.
abbrev pub IsEven : ℤ → Type 0
IsEven v = Divides (pos 2) v

-- g is at least 0, divides both a and b, and each number that divides both divides g.
-- Examples: 56 and 42: 14; 3 and -3: 3; 0 and 0: 0.
pub record IsGreatestCommonDivisor (a b g : ℤ) : Type 0 where
  pub from_zero : pos 0 ≤ℤ g
  pub divides_left : Divides g a
  pub divides_right : Divides g b
  pub greatest : (d : ℤ) → Divides d a → Divides d b → Divides d g

-- l is at least 0, a and b divide it, and it divides each number that both divide.
-- Examples: 7 and 3: 21; -1 and 1: 1; 0 and 5: 0.
pub record IsLeastCommonMultiple (a b l : ℤ) : Type 0 where
  pub from_zero : pos 0 ≤ℤ l
  pub left_divides : Divides a l
  pub right_divides : Divides b l
  pub least : (m : ℤ) → Divides a m → Divides b m → Divides l m

-- The greatest common divisor fits. Only a type that has -1 has to meet this: any other type has the gcd of any two of
-- its numbers.
-- Examples: u8: 0 and 255, as every pair; i8: -128 and 64; not -128 and 0.
abbrev pub GcdFits : (ℤ → Type 0) → ℤ → ℤ → Type 0
GcdFits fits a b = fits (negsuc 0) → EachFits fits (IsGreatestCommonDivisor a b)
