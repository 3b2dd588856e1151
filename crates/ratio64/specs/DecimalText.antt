-- The results of parsing decimal numbers.
use Rattle.std.specs.Prelude.{◌≡◌, ◌↔◌, ◌++◌, ◌-◌, ◌≤◌, ◌^◌, ◌*ℤ◌, ℤ, ℕ, List, codes, length, min, pos, unsigned_abs, IfOk, Result, Err}
use Rattle.std.specs.Str.Parse.{AllDigits, IsNumeral}
use Rattle.ratio64.specs.Decimal.{SpellsDecimal, places_of, units_of}
use Rattle.ratio64.specs.IntegerWords.{unsigned_part, whole_of}
use Rattle.ratio64.specs.declared.decimal.Decimal.{Decimal}
use Rattle.ratio64.specs.declared.decimal.reading.ParseDecimalError.{ParseDecimalError}
use Rattle.ratio64.specs.declared.decimal.reading.ParseDecimalError.TheVariants.{NotADecimal, TooManyPlaces, NotFitting}

-- The kept units with at most 18 places are the same number as the units with their places.
-- Examples: of 5·10^19 and 20 places: 5·10^17; of 1234 and 2: 1234; of 1 and 19 there are none.
pub record AreKept (units : ℤ) (places : ℕ) (kept : ℤ) : Type 0 where
  pub product : kept *ℤ pos (10 ^ (places - 18)) ≡ units

-- The result of parsing a number with these units and places is that number, or the error whose condition holds. Places after the 18th are dropped if
-- their digits are zeros.
-- Examples: 1234 and 2: 12.34; 5·10^19 and 20: 0.500000000000000000; 1 and 19: `TooManyPlaces`; 2^127 and 0: `NotFitting`.
pub record AnswersDecimal (units : ℤ) (places : ℕ) (result : Result Decimal ParseDecimalError) : Type 0 where
  pub number : IfOk result (λ x. AreKept units places (units_of x) × (places_of x ≡ min places 18))
  pub too_many_places : (result ≡ Err TooManyPlaces) ↔ ((kept : ℤ) → ¬ (AreKept units places kept))
  pub not_fitting : (result ≡ Err NotFitting) ↔ ((kept : ℤ) × AreKept units places kept × (2 ^ 127 ≤ unsigned_abs kept))

-- The result of parsing the string is `NotADecimal` if it spells no decimal number. Otherwise it is the result of the number that it spells.
-- Examples: `-0.05`: -0.05; `1,5` and `.5`: `NotADecimal`; `0.` and 50 zeros: 0.000000000000000000.
pub record ReadsDecimal (text : List ℕ) (result : Result Decimal ParseDecimalError) : Type 0 where
  pub not_a_decimal : (result ≡ Err NotADecimal) ↔ ((units : ℤ) (places : ℕ) → ¬ (SpellsDecimal text units places))
  pub answer : (units : ℤ) (places : ℕ) → SpellsDecimal text units places → AnswersDecimal units places result

-- This is the message of an error, which `Display` prints.
-- Examples: `NotADecimal`: `the text is not a decimal number`.
abbrev pub parse_error_text : ParseDecimalError → List ℕ
parse_error_text NotADecimal = codes "the text is not a decimal number"
parse_error_text TooManyPlaces = codes "a digit after the 18th place is not 0"
parse_error_text NotFitting = codes "the decimal number does not fit in 128 bits"

-- What private functions cite: the string spells a decimal number, of which these digits stand before the point and after it.
-- Examples: of `-0.05`: `-0` and `05`; of `7`: `7` and the empty string.
pub record AreParts (text whole part : List ℕ) : Type 0 where
  pub whole_digits : IsNumeral 10 (unsigned_part whole)
  pub part_digits : AllDigits 10 part
  pub spelled : SpellsDecimal text (whole_of (whole ++ part)) (length part)
