-- The gcd of a and b with Bezout's coefficients x and y, for which x·a + y·b is the gcd, and the loop that finds them.
use Rattle.std.specs.Prelude.{◌≡◌, ◌≢◌, ◌⊎◌, ◌≤◌, ◌*◌, ◌+ℤ◌, ◌-ℤ◌, ◌*ℤ◌, ℤ, ℕ, pos, negsuc, unsigned_abs}
use Rattle.integer_core.specs.Division.{IsQuotient, IsTruncated}
use Rattle.integer_core.specs.Divisors.{Divides, IsGreatestCommonDivisor}
use Rattle.integer_core.specs.Runs.{RunHasIterations}

-- The sign of a negative number is -1, and of any other 1.
-- Examples: -5: -1; 0: 1; 5: 1.
abbrev pub sign : ℤ → ℤ
sign (pos n) = pos 1
sign (negsuc n) = negsuc 0

-- The first case of a pair: b is not 0 and divides a, so b is the gcd up to its sign.
-- Examples: 12 and 4; 0 and 5; not 5 and 0.
pub record SecondDividesFirst (a b : ℤ) : Type 0 where
  pub nonzero : b ≢ pos 0
  pub divides : Divides b a

-- The second case of a pair: b is 0 or a divides b, so a is the gcd up to its sign.
-- Examples: 4 and 12; 5 and 0; not 10 and 4.
abbrev pub FirstDividesSecond : ℤ → ℤ → Type 0
FirstDividesSecond a b = (b ≡ pos 0) ⊎ Divides a b

-- The third case of a pair: neither of the other two holds.
-- Examples: 240 and 46; 10 and 4; not 12 and 4.
pub record NeedsBoth (a b : ℤ) : Type 0 where
  pub not_second : ¬ (SecondDividesFirst a b)
  pub not_first : ¬ (FirstDividesSecond a b)

-- x·a + y·b is g, twice the magnitude of x·g is at most that of b, and twice that of y·g is at most that of a.
-- Examples: 240 and 46, with 2: -9, 47; not 14, -73, which meets the equation too; 10 and 4, with 2: 1, -2.
pub record IsSmallPair (a b g x y : ℤ) : Type 0 where
  pub equation : x *ℤ a +ℤ y *ℤ b ≡ g
  pub x_small : 2 * unsigned_abs x * unsigned_abs g ≤ unsigned_abs b
  pub y_small : 2 * unsigned_abs y * unsigned_abs g ≤ unsigned_abs a

-- g is the greatest common divisor of a and b, and x·a + y·b is g, by the first case that holds: if b is not 0 and
-- divides a, x is 0 and y is the sign of b; if b is 0 or a divides b, x is the sign of a and y is 0; otherwise the pair
-- is small.
-- Examples: 12 and 4: 4, 0, 1; 0 and 0: 0, 1, 0; 240 and 46: 2, -9, 47.
pub record IsBezoutAnswer (a b g x y : ℤ) : Type 0 where
  pub greatest : IsGreatestCommonDivisor a b g
  pub equation : x *ℤ a +ℤ y *ℤ b ≡ g
  pub second_divides : SecondDividesFirst a b → (x ≡ pos 0) × (y ≡ sign b)
  pub first_divides : ¬ (SecondDividesFirst a b) → FirstDividesSecond a b → (x ≡ sign a) × (y ≡ pos 0)
  pub both : NeedsBoth a b → IsSmallPair a b g x y

-- If the type has no -1, and so no negative number, one operand divides the other.
-- Examples: u8: 4 and 12; not 10 and 4; i8: 10 and 4, as every pair.
abbrev pub HasPair : (ℤ → Type 0) → ℤ → ℤ → Type 0
HasPair fits a b = ¬ (fits (negsuc 0)) → Divides a b ⊎ Divides b a

-- A state of Euclid's loop is the current and the previous remainder.
-- Examples: of 240 and 46: 46 and 240, then 10 and 46, then 6 and 10.
pub record Remainders : Type 0 where
  pub current : ℤ
  pub previous : ℤ

-- The loop ends if the current remainder divides the previous one.
-- Examples: 2 and 4; 4 and 12; not 46 and 240.
abbrev pub EuclidEnds : Remainders → Type 0
EuclidEnds s = Divides s.current s.previous

-- If the current remainder does not divide the previous one, an iteration replaces the two by previous - q·current and
-- current, with the truncated quotient q of the two.
-- Examples: 46 and 240 to 10 and 46; 10 and 46 to 6 and 10; none from 2 and 4.
pub record IsEuclidIteration (s t : Remainders) : Type 0 where
  pub goes_on : ¬ (EuclidEnds s)
  pub quotient : ℤ
  pub truncated : IsQuotient IsTruncated s.previous s.current quotient
  pub current : t.current ≡ s.previous -ℤ quotient *ℤ s.current
  pub previous : t.previous ≡ s.current

-- n is 0 if b is 0, and otherwise the number of iterations of the run that begins with the current remainder b and the
-- previous one a.
-- Examples: 240 and 46: 4; 12 and 4: 0; 8 and 13: 5.
pub record AreEuclidIterations (a b : ℤ) (n : ℕ) : Type 0 where
  pub of_zero : b ≡ pos 0 → n ≡ 0
  pub of_nonzero : b ≢ pos 0 → RunHasIterations IsEuclidIteration EuclidEnds (record { current = b; previous = a }) n
