-- Fractions num/den of integers, and the one reduced pair that is equal to each.
use Rattle.std.specs.Prelude.{◌≡◌, ◌≢◌, ◌⊎◌, ◌≤◌, ◌<ℤ◌, ◌*ℤ◌, ℤ, pos, unsigned_abs, FitsSigned}
use Rattle.std.specs.Int.{w64}
use Rattle.std.specs.Ordering.{int_cmp}
use Rattle.std.specs.declared.cmp.Ordering.{Ordering}
use Rattle.num_integer.specs.Divisors.{IsGreatestCommonDivisor}

-- The denominator of the fraction num/den is not 0.
-- Examples: 6/-4; 0/5; not 1/0.
abbrev pub IsFraction : ℤ → ℤ → Type 0
IsFraction num den = den ≢ pos 0

-- The fractions a/b and c/d are equal: a·d is c·b.
-- Examples: 6/-4 and -3/2; 0/5 and 0/1; not 1/2 and 1/3.
pub record AreEqual (a b c d : ℤ) : Type 0 where
  pub cross : a *ℤ d ≡ c *ℤ b

-- The denominator is positive, and the greatest common divisor of the two parts is 1.
-- Examples: -3 and 2; 0 and 1; not 3 and -2.
pub record IsReduced (num den : ℤ) : Type 0 where
  pub positive : pos 0 <ℤ den
  pub lowest : IsGreatestCommonDivisor num den (pos 1)

-- The exact result of the fraction a/b is num/den, the reduced pair that is equal to it.
-- Examples: 6/-4: -3/2; 0/-9: 0/1; 1/0 has no exact result.
pub record IsExact (a b num den : ℤ) : Type 0 where
  pub fraction : IsFraction a b
  pub reduced : IsReduced num den
  pub equal : AreEqual a b num den

-- A part of the exact result of a/b does not fit in `i64`.
-- Examples: 1/MIN, whose denominator is 2^63; MIN/-1; not MIN/2.
pub record IsOutsideI64 (a b : ℤ) : Type 0 where
  pub num : ℤ
  pub den : ℤ
  pub exact : IsExact a b num den
  pub outside : (¬ (FitsSigned w64 num)) ⊎ (¬ (FitsSigned w64 den))

-- The fractions a/b and c/d compare as a·d and c·b do, if b and d are positive.
-- Examples: 1/3 and 1/2: `Less`; 2/4 and 1/2: `Equal`; -1/MAX and MIN/1: `Greater`.
abbrev pub fraction_cmp : ℤ → ℤ → ℤ → ℤ → Ordering
fraction_cmp a b c d = int_cmp (a *ℤ d) (c *ℤ b)

-- What private functions cite: each number of at most the magnitude of this one fits.
-- Examples: at `i8`: of 100 and of -127; not of -128.
abbrev pub FitsUpTo : (ℤ → Type 0) → ℤ → Type 0
FitsUpTo fits number = (z : ℤ) → unsigned_abs z ≤ unsigned_abs number → fits z
