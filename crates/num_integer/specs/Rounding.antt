-- Quotients rounded to the nearest integer, by equation and inequalities.
use Rattle.std.specs.Prelude.{◌≡◌, ◌≢◌, ◌⊎◌, ◌<◌, ◌≤◌, ◌*◌, ◌≤ℤ◌, ◌+ℤ◌, ◌*ℤ◌, ℤ, Option, pos, unsigned_abs}
use Rattle.integer_core.specs.Checked.{AnswersWhere, FitsWith}
use Rattle.integer_core.specs.Division.{IsDivision, IsQuotient}
use Rattle.integer_core.specs.Divisors.{IsEven}
use Rattle.integer_core.specs.Range.{EachFits}

-- q is the integer nearest to n / d. Of two that are equally near, it is the one farther from 0. The magnitude of the remainder r is at most half of that of d.
-- Examples: 7 by 3: q 2, r 1; 8 by 3: q 3, r -1; 5 by 2: q 3, r -1; -5 by 2: q -3, r 1.
pub record IsNearest (n d q r : ℤ) : Type 0 where
  pub division : IsDivision n d q r
  pub nearest : 2 * unsigned_abs r ≤ unsigned_abs d
  pub tie : 2 * unsigned_abs r ≡ unsigned_abs d → unsigned_abs n < unsigned_abs (q *ℤ d)

-- q is the integer nearest to n / d. Of two that are equally near, it is the even one. The magnitude of the remainder r is at most half of that of d.
-- Examples: 7 by 3: q 2, r 1; 8 by 3: q 3, r -1; 5 by 2: q 2, r 1; -5 by 2: q -2, r -1; 7 by 2: q 4, r -1.
pub record IsNearestEven (n d q r : ℤ) : Type 0 where
  pub division : IsDivision n d q r
  pub nearest : 2 * unsigned_abs r ≤ unsigned_abs d
  pub tie : 2 * unsigned_abs r ≡ unsigned_abs d → IsEven q

-- The result is `Some` of the quotient of this kind, or `None` if the divisor is 0 or the quotient does not fit.
-- Examples: of the kind `IsNearest` in i8: for 5 and 2 it is `Some` of 3; for 5 and 0 it is `None`; for -128 and -1 it is `None`.
abbrev pub AnswersQuotient : (ℤ → ℤ → ℤ → ℤ → Type 0) → (ℤ → Type 0) → {X : Type 0} → (X → ℤ) → ℤ → ℤ → Option X → Type 0
AnswersQuotient Kind fits value n d result = AnswersWhere ((d ≢ pos 0) × EachFits fits (IsQuotient Kind n d)) (FitsWith fits value (IsQuotient Kind n d)) result

-- r is between 0 and d, which may be negative. It may be 0 or d.
-- Examples: d 3: 0; 1; 3; d -3: -1; not d 3: -1.
abbrev pub LiesWithin : ℤ → ℤ → Type 0
LiesWithin d r = ((pos 0 ≤ℤ r) × (r ≤ℤ d)) ⊎ ((d ≤ℤ r) × (r ≤ℤ pos 0))

-- The magnitude of the remainder r is less than half of that of d, or it is half of it and A holds.
-- Examples: r 1, d 3; r 1, d 2 if A holds; not r 2, d 3.
abbrev pub IsDown : Type 0 → ℤ → ℤ → Type 0
IsDown A d r = (2 * unsigned_abs r < unsigned_abs d) ⊎ ((2 * unsigned_abs r ≡ unsigned_abs d) × A)

-- The quotient q is rounded down with the remainder r. The number is q if `IsDown` holds. Otherwise it is q + 1.
-- Examples: 7 by 3: 2; 8 by 3: 3; 5 by 2: 2 if A holds, otherwise 3.
abbrev pub IsNearer : Type 0 → ℤ → ℤ → ℤ → ℤ → Type 0
IsNearer A d q r number = (IsDown A d r × (number ≡ q)) ⊎ ((¬ (IsDown A d r)) × (number ≡ q +ℤ pos 1))
