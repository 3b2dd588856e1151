-- The numbers and the strings of the errors.
use Rattle.std.specs.Prelude.{ℕ, List, codes}
use Rattle.ratio64.specs.declared.error.RatioError.{RatioError}
use Rattle.ratio64.specs.declared.error.RatioError.TheVariants.{ZeroDenominator, NotFitting}

-- This is the number of an error. No version changes it.
-- Examples: `ZeroDenominator`: 1; `NotFitting`: 2.
abbrev pub number_of : RatioError → ℕ
number_of ZeroDenominator = 1
number_of NotFitting = 2

-- This is the message of an error, which `Display` prints.
-- Examples: `ZeroDenominator`: `the denominator is 0`.
abbrev pub error_text : RatioError → List ℕ
error_text ZeroDenominator = codes "the denominator is 0"
error_text NotFitting = codes "a part of the reduced fraction does not fit in 64 bits"
