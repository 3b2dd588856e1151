-- Decimal numbers, and their strings.
use Rattle.std.specs.Prelude.{◌≡◌, ◌++◌, ◌/◌, ◌%◌, ◌+◌, ◌-◌, ◌^◌, ◌*ℤ◌, ◌==◌, ℤ, ℕ, zero, suc, List, [], ◌∷◌, Option, Some, None, codes, length, pos, unsigned_abs, if◌then◌else◌}
use Rattle.std.specs.Fmt.{decimal, padding_before, sign_text, spec_precision, spec_zero_pad}
use Rattle.std.specs.Int.{is_negative}
use Rattle.std.specs.Str.Parse.{IsNumeral}
use Rattle.num_integer.specs.Padded.{FormatOptions, padded_number}
use Rattle.ratio64.specs.IntegerWords.{unsigned_part}
use Rattle.ratio64.specs.Ratio.{den_of, num_of, text_of}
use Rattle.ratio64.specs.RatioText.{SpellsWhole}
use Rattle.ratio64.specs.Rounding.{IsRoundedEven, rounded_even}
use Rattle.ratio64.specs.declared.decimal.Decimal.{Decimal}
use Rattle.ratio64.specs.declared.fraction.Ratio.{Ratio}

-- The units of a decimal number are the number times 10^places.
-- Examples: of 246.80: 24680; of -0.05: -5; of 7: 7.
abbrev pub units_of : Decimal → ℤ
units_of x = x.units

-- The places of a decimal number are its digits after the point.
-- Examples: of 246.80: 2; of 7: 0.
abbrev pub places_of : Decimal → ℕ
places_of x = x.places

-- The quintillionths of a decimal number are the number times 10^18.
-- Examples: of 0.5 and of 0.50: 5·10^17; of 7: 7·10^18.
abbrev pub quintillionths_of : Decimal → ℤ
quintillionths_of x = units_of x *ℤ pos (10 ^ (18 - places_of x))

-- x is the nearest to n/d of the decimal numbers with so many places. Of two that are equally near, it is the one whose units are even.
-- Examples: 1234/5 with 2 places: 246.80; 1/8 with 2: 0.12; -1/20 with 1: 0.0.
pub record IsDecimalOf (n d : ℤ) (places : ℕ) (x : Decimal) : Type 0 where
  pub places_are : places_of x ≡ places
  pub rounded : IsRoundedEven (n *ℤ pos (10 ^ places)) d (units_of x)

-- These are the last decimal digits of the number.
-- Examples: two of 5: `05`; two of 24680: `80`; none of 7: the empty string.
unfoldable pub last_digits : ℕ → ℕ → List ℕ
last_digits zero n = []
last_digits (suc k) n = last_digits k (n / 10) ++ (48 + n % 10) ∷ []

-- This is a point if there are places after it.
-- Examples: 2: `.`; 0: the empty string.
abbrev pub point : ℕ → List ℕ
point places = if places == 0 then [] else codes "."

-- The string of a decimal number is a minus if it is negative, the digits of its integer part, and a point and the digits after it if there are any.
-- Examples: 24680 and 2 places: `246.80`; -5 and 2: `-0.05`; 7 and 0: `7`.
abbrev pub decimal_text : ℤ → ℕ → List ℕ
decimal_text units places =
    let size = unsigned_abs units in
    sign_text (is_negative units) ++ decimal (size / 10 ^ places) ++ point places ++ last_digits places size

-- The string of a fraction, or of the nearest decimal number with so many places. Of two that are equally near, it is the one
-- whose last digit is even.
-- Examples: of 2/3: `2/3`; with 2 places `0.67`, and with none `1`; of -1/20 with 1: `0.0`.
abbrev pub shown_text : Option ℕ → Ratio → List ℕ
shown_text None x = text_of x
shown_text (Some places) x = decimal_text (rounded_even (num_of x *ℤ pos (10 ^ places)) (den_of x)) places

-- The string of a fraction under the options of a format, padded as a number. The precision is the number of places.
-- Examples: -3/2 under `{:07}`: `-0003/2`; 3 under `{:+}`: `+3`; 2/3 under `{:7.2}`: `   0.67`.
abbrev pub styled_text_of : FormatOptions → Ratio → List ℕ
styled_text_of spec x = padded_number spec (shown_text (spec_precision spec) x)

-- What private functions cite: how much padding stands before a number, after its sign as zeros, and after it.
-- Examples: of 3 under `{:9}`: 3, 0 and 0; under `{:09}`: 0, 3 and 0; under `{:^9}`: 1, 0 and 2.
pub record ArePadding (spec : FormatOptions) (padding before zeros after : ℕ) : Type 0 where
  pub before_is : before ≡ (if spec_zero_pad spec then 0 else padding_before spec padding 3)
  pub zeros_are : zeros ≡ (if spec_zero_pad spec then padding else 0)
  pub after_is : after ≡ (if spec_zero_pad spec then 0 else padding - padding_before spec padding 3)

-- The string spells the decimal number with these units. It has an optional `-` and one or more digits, and then a point and as many digits as there
-- are places, if there are any. Without the point it spells the units.
-- Examples: `246.80`: 24680 and 2; `-00.5`: -5 and 1; `5.` and `.5` spell none.
pub record SpellsDecimal (text : List ℕ) (units : ℤ) (places : ℕ) : Type 0 where
  pub whole : List ℕ
  pub part : List ℕ
  pub parts : text ≡ whole ++ point places ++ part
  pub part_places : length part ≡ places
  pub whole_digits : IsNumeral 10 (unsigned_part whole)
  pub spelled : SpellsWhole (whole ++ part) units
