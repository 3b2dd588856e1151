-- Fractions that are read from a text.
use Rattle.std.specs.Prelude.{◌≡◌, ◌^◌, ℕ, ℤ, pos, Result, MatchResult}
use Rattle.ratio64.specs.Decimal.{places_of, units_of}
use Rattle.ratio64.specs.Ratio.{AnswersFraction, den_of, num_of}
use Rattle.ratio64.specs.RatioError.{number_of}
use Rattle.ratio64.specs.declared.decimal.Decimal.{Decimal}
use Rattle.ratio64.specs.declared.decimal.reading.ParseDecimalError.{ParseDecimalError}
use Rattle.ratio64.specs.declared.decimal.reading.ParseDecimalError.TheVariants as unread
use Rattle.ratio64.specs.declared.error.RatioError.{RatioError}
use Rattle.ratio64.specs.declared.error.RatioError.TheVariants as refused
use Rattle.ratio64.specs.declared.fraction.Ratio.{Ratio}
use Rattle.ratio64.specs.declared.parse.ParseRatioError.{ParseRatioError}
use Rattle.ratio64.specs.declared.parse.ParseRatioError.TheVariants.{NotAFraction, TooLong, ZeroDenominator, NotFitting}
use Rattle.cellarcove_c.specs.Fractions.{Represents}
use Rattle.cellarcove_c.specs.Statuses.{outside}

-- The status of an error of reading a fraction.
-- Examples: of `NotAFraction` and of `TooLong`: 3; of `ZeroDenominator`: 1; of `NotFitting`: 2.
abbrev pub status_of : ParseRatioError → ℕ
status_of NotAFraction = outside
status_of TooLong = outside
status_of ZeroDenominator = number_of refused.ZeroDenominator
status_of NotFitting = number_of refused.NotFitting

-- A status and two numbers are 0 and the parts of a fraction that was read, or the status of an error and zeros.
-- Examples: of -3/2: 0, -3 and 2; of `NotAFraction`: 3, 0 and 0.
abbrev pub StandsForRead : Result Ratio ParseRatioError → ℕ → ℤ → ℤ → Type 0
StandsForRead read status num den = MatchResult read (λ x. (status ≡ 0) × (num ≡ num_of x) × (den ≡ den_of x))
    (λ e. (status ≡ status_of e) × (num ≡ pos 0) × (den ≡ pos 0))

-- The status of an error of reading a decimal number.
-- Examples: of `NotADecimal` and of `TooManyPlaces`: 3; of `NotFitting`: 2.
abbrev pub status_of_decimal : ParseDecimalError → ℕ
status_of_decimal unread.NotADecimal = outside
status_of_decimal unread.TooManyPlaces = outside
status_of_decimal unread.NotFitting = number_of refused.NotFitting

-- A status and two numbers are those of the fraction that is the decimal number that was read, or the status of an error and zeros.
-- Examples: of -0.05: 0, -1 and 20; of 10^19: 2, 0 and 0; of `NotADecimal`: 3, 0 and 0.
abbrev pub StandsForDecimal : Result Decimal ParseDecimalError → ℕ → ℤ → ℤ → Type 0
StandsForDecimal read status num den = MatchResult read
    (λ x. (r : Result Ratio RatioError) × AnswersFraction (units_of x) (pos (10 ^ places_of x)) r × Represents r status num den)
    (λ e. (status ≡ status_of_decimal e) × (num ≡ pos 0) × (den ≡ pos 0))
