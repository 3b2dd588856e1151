-- Stein's loop for a greatest common divisor, as runs of pairs of odd numbers.
use Rattle.std.specs.Prelude.{◌≡◌, ◌⊎◌, ◌+◌, ◌-◌, ◌*◌, ◌%◌, ◌^◌, ◌<◌, ◌≤◌, ℕ, ℤ, pos, unsigned_abs}
use Rattle.std.specs.Int.{IsGcd}
use Rattle.integer_core.specs.Divisors.{IsGreatestCommonDivisor}
use Rattle.integer_core.specs.Runs.{RunHasIterations}

-- m is n with all factors 2 taken out.
-- Examples: 12: 3; 7: 7; none of 0.
pub record IsOddPart (n m : ℕ) : Type 0 where
  pub odd : m % 2 ≡ 1
  pub twos : ℕ
  pub product : n ≡ m * 2 ^ twos

-- A state of Stein's loop is two odd numbers, a first and a second.
-- Examples: 5, 3; 7, 21; 7, 7.
pub record OddPair : Type 0 where
  pub m : ℕ
  pub n : ℕ

-- The loop ends if the two numbers are equal.
-- Examples: 7, 7; 1, 1; not 5, 3.
abbrev pub GcdEnds : OddPair → Type 0
GcdEnds s = s.m ≡ s.n

-- The first number is the larger one, and becomes their difference with all factors 2 taken out.
-- Examples: 5, 3 to 1, 3; 21, 7 to 7, 7; none from 3, 5.
pub record IsLeftIteration (s t : OddPair) : Type 0 where
  pub above : s.n < s.m
  pub m : IsOddPart (s.m - s.n) t.m
  pub n : t.n ≡ s.n

-- The second number is the larger one, and becomes their difference with all factors 2 taken out.
-- Examples: 3, 5 to 3, 1; 7, 21 to 7, 7; none from 5, 3.
pub record IsRightIteration (s t : OddPair) : Type 0 where
  pub above : s.m < s.n
  pub m : t.m ≡ s.m
  pub n : IsOddPart (s.n - s.m) t.n

-- An iteration subtracts the smaller number of the pair from the larger, and takes all factors 2 out of the difference.
-- Examples: 5, 3 to 1, 3; 7, 21 to 7, 7; none from 7, 7.
abbrev pub IsGcdIteration : OddPair → OddPair → Type 0
IsGcdIteration s t = IsLeftIteration s t ⊎ IsRightIteration s t

-- The exchanged pair has its numbers in each other's place.
-- Examples: 5, 3: 3, 5; 7, 21: 21, 7; 7, 7: 7, 7.
abbrev pub exchanged : OddPair → OddPair
exchanged s = record { m = s.n; n = s.m }

-- An iteration that puts the number that it keeps second.
-- Examples: 5, 3 to 1, 3; 3, 5 to 1, 3; 7, 21 to 7, 7.
abbrev pub IsOrderedIteration : OddPair → OddPair → Type 0
IsOrderedIteration s t = IsLeftIteration s t ⊎ IsLeftIteration (exchanged s) t

-- gcd is the greatest common divisor of the odd numbers a and b, found by so many iterations from them.
-- Examples: 5 and 3: 1 after 2; 7 and 21: 7 after 1; 7 and 7: 7 after 0.
pub record IsOddGcd (a b gcd iterations : ℕ) : Type 0 where
  pub greatest : IsGcd a b gcd
  pub run : RunHasIterations IsGcdIteration GcdEnds (record { m = a; n = b }) iterations
  pub few : 2 ^ iterations ≤ a * b

-- Stein's loop makes n iterations from a and b with all factors 2 taken out.
-- Examples: 56 and 42: 1; 5 and 3: 2; 8 and 4: 0.
pub record MakesGcdRun (a b n : ℕ) : Type 0 where
  pub first : OddPair
  pub left : IsOddPart a first.m
  pub right : IsOddPart b first.n
  pub run : RunHasIterations IsGcdIteration GcdEnds first n

-- There are at most as many iterations as a and b have bits: n is at most k + l for any k and l with the magnitude of a below
-- 2^k and that of b below 2^l.
-- Examples: 5 and 3: at most 5 iterations; 56 and 42: at most 12.
abbrev pub AreWithinBits : ℤ → ℤ → ℕ → Type 0
AreWithinBits a b n = (k l : ℕ) → unsigned_abs a < 2 ^ k → unsigned_abs b < 2 ^ l → n ≤ k + l

-- a and b are numbers of the type, and not 0.
-- Examples: in u8: 56 and 42; 1 and 255; not 0 and 7, nor 256 and 1.
pub record ArePositive (fits : ℤ → Type 0) (a b : ℤ) : Type 0 where
  pub a_in_range : fits a
  pub b_in_range : fits b
  pub a_positive : 0 < unsigned_abs a
  pub b_positive : 0 < unsigned_abs b

-- For positive a and b, gcd is their greatest common divisor, found by so many iterations of Stein's loop.
-- Examples: 56 and 42: 14 after 1; 5 and 3: 1 after 2; 8 and 4: 4 after 0.
pub record IsPositiveGcd (a b gcd : ℤ) (iterations : ℕ) : Type 0 where
  pub greatest : IsGreatestCommonDivisor a b gcd
  pub run : MakesGcdRun (unsigned_abs a) (unsigned_abs b) iterations
  pub bound : AreWithinBits a b iterations

-- x is 0, or low, the smallest number of a type.
-- Examples: of i8: 0; -128; not 1.
abbrev pub IsZeroOrLeast : ℤ → ℤ → Type 0
IsZeroOrLeast low x = (x ≡ pos 0) ⊎ (x ≡ low)

-- n is 0 if a or b is 0 or low, and otherwise the number of iterations of the run from the magnitudes of a and b.
-- Examples: 56 and 42: 1; 5 and 3: 2; i64 MIN and 3: 0.
pub record AreGcdIterations (low a b : ℤ) (n : ℕ) : Type 0 where
  pub at_once : IsZeroOrLeast low a ⊎ IsZeroOrLeast low b → n ≡ 0
  pub by_iterations : ¬ (IsZeroOrLeast low a) → ¬ (IsZeroOrLeast low b) → MakesGcdRun (unsigned_abs a) (unsigned_abs b) n

-- For any a and b of a type with the smallest number low, gcd is their greatest common divisor, found by n iterations.
-- Examples: 56 and 42: 14 after 1; 0 and 5: 5 after 0; in i8 -128 and 64: 64 after 0.
pub record IsCountedGcd (low a b gcd : ℤ) (n : ℕ) : Type 0 where
  pub greatest : IsGreatestCommonDivisor a b gcd
  pub iterations : AreGcdIterations low a b n
  pub bound : AreWithinBits a b n

-- l is the smallest number for which the magnitude of v is below 2 to the power l.
-- Examples: 0: 0; 7 and -7: 3; 8: 4.
pub record IsBitLength (v : ℤ) (l : ℕ) : Type 0 where
  pub below : unsigned_abs v < 2 ^ l
  pub least : (k : ℕ) → unsigned_abs v < 2 ^ k → l ≤ k
