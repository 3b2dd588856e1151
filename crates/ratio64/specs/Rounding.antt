-- Rounding to the nearest integer, and to a number of parts.
use Rattle.std.specs.Prelude.{◌+◌, ◌*◌, ◌/◌, ◌%◌, ℕ, ℤ, Result, nat_le, neg_ℤ, pos, unsigned_abs, if◌then◌else◌}
use Rattle.std.specs.Int.{is_negative}
use Rattle.num_integer.specs.Division.{IsQuotient}
use Rattle.num_integer.specs.Rounding.{IsNearest, IsNearestEven}
use Rattle.ratio64.specs.Ratio.{AnswersFraction}
use Rattle.ratio64.specs.declared.fraction.Ratio.{Ratio}
use Rattle.ratio64.specs.declared.error.RatioError.{RatioError}

-- r is the integer nearest to n/d. Of two that are equally near, it is the one farther from 0.
-- Examples: 7 and 3: 2; 3 and 2: 2; -3 and 2: -2.
abbrev pub IsRounded : ℤ → ℤ → ℤ → Type 0
IsRounded n d r = IsQuotient IsNearest n d r

-- r is the integer nearest to n/d. Of two that are equally near, it is the even one.
-- Examples: 7 and 3: 2; 5 and 2: 2; 7 and 2: 4; -3 and 2: -2.
abbrev pub IsRoundedEven : ℤ → ℤ → ℤ → Type 0
IsRoundedEven n d r = IsQuotient IsNearestEven n d r

-- The natural number nearest to n/d. Of two that are equally near, it is the even one.
-- Examples: 7 and 3: 2; 5 and 2: 2; 7 and 2: 4.
abbrev pub half_even : ℕ → ℕ → ℕ
half_even n d = if nat_le (2 * (n % d) + n / d % 2) d then n / d else n / d + 1

-- The integer that `IsRoundedEven` holds of, if d is positive.
-- Examples: 7 and 3: 2; 5 and 2: 2; 7 and 2: 4; -3 and 2: -2.
abbrev pub rounded_even : ℤ → ℤ → ℤ
rounded_even n d =
    let size = half_even (unsigned_abs n) (unsigned_abs d) in
    if is_negative n then neg_ℤ (pos size) else pos size

-- The result is that of number/parts, for a number with the property.
-- Examples: in quarters, of the floor of 4 · 5/3: 6/4, so 3/2; of its ceiling: 7/4.
pub record AnswersInParts (P : ℤ → Type 0) (parts : ℤ) (result : Result Ratio RatioError) : Type 0 where
  pub number : ℤ
  pub is : P number
  pub fraction : AnswersFraction number parts result
