-- The strings that spell a fraction, and the results of parsing.
use Rattle.std.specs.Prelude.{◌≡◌, ◌⊎◌, ◌↔◌, ◌++◌, ◌≤◌, ◌^◌, ℤ, ℕ, List, codes, unsigned_abs, Result, Ok, Err}
use Rattle.std.specs.Str.Parse.{IsNumeral}
use Rattle.ratio64.specs.IntegerWords.{unsigned_part, whole_of}
use Rattle.ratio64.specs.Ratio.{AnswersFraction}
use Rattle.ratio64.specs.RatioError.{error_text}
use Rattle.ratio64.specs.declared.fraction.Ratio.{Ratio}
use Rattle.ratio64.specs.declared.error.RatioError.{RatioError}
use Rattle.ratio64.specs.declared.error.RatioError.TheVariants as refused
use Rattle.ratio64.specs.declared.parse.ParseRatioError.{ParseRatioError}
use Rattle.ratio64.specs.declared.parse.ParseRatioError.TheVariants.{NotAFraction, TooLong, ZeroDenominator, NotFitting}

-- The string spells the integer. It has an optional `-`, then one or more digits, and nothing else.
-- Examples: `-007`: -7; `-0`: 0; `+1` spells no integer.
pub record SpellsWhole (text : List ℕ) (number : ℤ) : Type 0 where
  pub digits : IsNumeral 10 (unsigned_part text)
  pub value : number ≡ whole_of text

-- The string spells a fraction. It is `a/b`, or only `a` if b is 1.
-- Examples: `6/-4`: 6 and -4; `3`: 3 and 1; `1/` spells no fraction.
pub record SpellsFraction (text : List ℕ) (a b : ℤ) : Type 0 where
  pub num : List ℕ
  pub den : List ℕ
  pub parts : (text ≡ num ++ codes "/" ++ den) ⊎ ((text ≡ num) × (den ≡ codes "1"))
  pub num_spelled : SpellsWhole num a
  pub den_spelled : SpellsWhole den b

-- A part has more than 38 digits, leading zeros aside.
-- Examples: 1 and 10^38; -10^38 and 1; not 1 and 10^38 - 1.
abbrev pub HasLongPart : ℤ → ℤ → Type 0
HasLongPart a b = (10 ^ 38 ≤ unsigned_abs a) ⊎ (10 ^ 38 ≤ unsigned_abs b)

-- This is the same fraction, or the error of parsing that has the same name.
-- Examples: of `Ok` of 1/2: `Ok` of 1/2; of `Err(NotFitting)`: `Err(NotFitting)`.
abbrev pub answer_read : Result Ratio RatioError → Result Ratio ParseRatioError
answer_read (Ok x) = Ok x
answer_read (Err refused.ZeroDenominator) = Err ZeroDenominator
answer_read (Err refused.NotFitting) = Err NotFitting

-- This is the message of an error, which `Display` prints.
-- Examples: `NotAFraction`: `the text is not a fraction`; `ZeroDenominator`: `the denominator is 0`.
abbrev pub parse_error_text : ParseRatioError → List ℕ
parse_error_text NotAFraction = codes "the text is not a fraction"
parse_error_text TooLong = codes "a part has more than 38 digits, leading zeros aside"
parse_error_text ZeroDenominator = error_text refused.ZeroDenominator
parse_error_text NotFitting = error_text refused.NotFitting

-- The result of parsing a/b is `TooLong` if it has a long part, and otherwise the result of the fraction.
-- Examples: 1/10^38: `TooLong`; 2^64/2: `NotFitting`; 1/0: `ZeroDenominator`.
pub record AnswersSpelled (a b : ℤ) (result : Result Ratio ParseRatioError) : Type 0 where
  pub too_long : (result ≡ Err TooLong) ↔ HasLongPart a b
  pub answer : ¬ (HasLongPart a b) → (r : Result Ratio RatioError) × (result ≡ answer_read r) × AnswersFraction a b r

-- The result of parsing the string is `NotAFraction` if it spells no fraction. Otherwise it is the result of the fraction that it spells.
-- Examples: `6/-4`: -3/2; `1/`: `NotAFraction`; `18446744073709551614/2`: MAX/1.
pub record ReadsFraction (text : List ℕ) (result : Result Ratio ParseRatioError) : Type 0 where
  pub not_a_fraction : (result ≡ Err NotAFraction) ↔ ((a b : ℤ) → ¬ (SpellsFraction text a b))
  pub answer : (a b : ℤ) → SpellsFraction text a b → AnswersSpelled a b result
