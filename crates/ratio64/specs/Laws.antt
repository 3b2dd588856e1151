-- The laws of fractions. Each is proved in proofs/Laws.antt, by a lemma of its name in small letters.
use Rattle.std.specs.Prelude.{◌≡◌, ◌↔◌, ◌<ℤ◌, ◌+ℤ◌, ◌*ℤ◌, ◌^◌, ℕ, ℤ, List, pos, FitsSigned, Ok, Result}
use Rattle.std.specs.Cmp.{IsTotalOrder}
use Rattle.std.specs.Int.{w64}
use Rattle.std.specs.Ordering.{int_cmp}
use Rattle.std.specs.declared.cmp.Ordering.TheVariants.{Equal, Less}
use Rattle.num_integer.specs.Only.{IsOnly}
use Rattle.ratio64.specs.Decimal.{SpellsDecimal, decimal_text, places_of, quintillionths_of, units_of}
use Rattle.ratio64.specs.DecimalText.{ReadsDecimal}
use Rattle.ratio64.specs.Fraction.{AreEqual, IsExact, IsFraction, IsReduced, fraction_cmp}
use Rattle.ratio64.specs.Limiting.{AreNearestParts, IsNearestWithin}
use Rattle.ratio64.specs.Ratio.{AnswersFraction, num_of, den_of, text_of}
use Rattle.ratio64.specs.RatioText.{ReadsFraction}
use Rattle.ratio64.specs.Rounding.{IsRounded, IsRoundedEven, rounded_even}
use Rattle.ratio64.specs.declared.decimal.Decimal.{Decimal}
use Rattle.ratio64.specs.declared.decimal.reading.ParseDecimalError.{ParseDecimalError}
use Rattle.ratio64.specs.declared.error.RatioError.{RatioError}
use Rattle.ratio64.specs.declared.fraction.Ratio.{Ratio}
use Rattle.ratio64.specs.declared.parse.ParseRatioError.{ParseRatioError}

-- ---- reduced pairs

-- Each fraction has an exact result.
abbrev pub ExactResultExists : Type 0
ExactResultExists = (a b : ℤ) → IsFraction a b → (num den : ℤ) × IsExact a b num den

-- Each fraction has only one exact result.
abbrev pub ExactResultIsOnly : Type 0
ExactResultIsOnly = (a b num den : ℤ) → IsExact a b num den → IsOnly (λ (n, d). IsExact a b n d) (num, den)

-- Equal fractions have the same exact result.
abbrev pub EqualFractionsHaveOneResult : Type 0
EqualFractionsHaveOneResult = (a b c d num den : ℤ) → IsFraction c d → AreEqual a b c d → IsExact a b num den → IsExact c d num den

-- Reduced pairs are equal fractions exactly if they are the same pair.
abbrev pub ReducedPairsAreEqualWhereSame : Type 0
ReducedPairsAreEqualWhereSame = (a b c d : ℤ) → IsReduced a b → IsReduced c d → AreEqual a b c d ↔ ((a ≡ c) × (b ≡ d))

-- Each numerator and denominator are those of at most one `Ratio`.
abbrev pub RatioOfPartsIsOnly : Type 0
RatioOfPartsIsOnly = (x y : Ratio) → num_of x ≡ num_of y → den_of x ≡ den_of y → x ≡ y

-- A call that computes a fraction has only one result.
abbrev pub AnswerIsOnly : Type 0
AnswerIsOnly = (a b : ℤ) (r s : Result Ratio RatioError) → AnswersFraction a b r → AnswersFraction a b s → r ≡ s

-- ---- the order

-- Fractions whose denominators are positive are in a total order.
abbrev pub OrderIsTotal : (K : Type 0) → (K → ℤ) → (K → ℤ) → Type 0
OrderIsTotal K num den = ((x : K) → pos 0 <ℤ den x) → IsTotalOrder (λ x y. fraction_cmp (num x) (den x) (num y) (den y))

-- Two fractions compare equal in that order exactly if they are equal.
abbrev pub OrderAgreesWithEquality : Type 0
OrderAgreesWithEquality = (a b c d : ℤ) → (fraction_cmp a b c d ≡ Equal) ↔ AreEqual a b c d

-- Of two fractions with the same positive denominator, the one with the smaller numerator is smaller.
abbrev pub OrderOverOneDenominator : Type 0
OrderOverOneDenominator = (a c d : ℤ) → pos 0 <ℤ d → a <ℤ c → fraction_cmp a d c d ≡ Less

-- ---- rounding

-- Each fraction has only one nearest integer.
abbrev pub RoundedIsOnly : Type 0
RoundedIsOnly = (n d r : ℤ) → pos 0 <ℤ d → IsRounded n d r → IsOnly (IsRounded n d) r

-- Each fraction has only one nearest integer of which a tie is even.
abbrev pub RoundedEvenIsOnly : Type 0
RoundedEvenIsOnly = (n d r : ℤ) → pos 0 <ℤ d → IsRoundedEven n d r → IsOnly (IsRoundedEven n d) r

-- It is `rounded_even`.
abbrev pub RoundedEvenIs : Type 0
RoundedEvenIs = (n d : ℤ) → pos 0 <ℤ d → IsRoundedEven n d (rounded_even n d)

-- ---- small denominators

-- Each fraction has at most one nearest fraction with a small denominator.
abbrev pub NearestIsOnly : Type 0
NearestIsOnly = (n d max num den : ℤ) → IsNearestWithin n d max num den → IsOnly (λ (u, v). IsNearestWithin n d max u v) (num, den)

-- What is nearest to the exact result of a fraction with a positive denominator is nearest to the fraction itself.
abbrev pub NearestToExactResult : Type 0
NearestToExactResult = (a b num den max x y : ℤ) → pos 0 <ℤ b → IsExact a b num den → IsNearestWithin num den max x y → IsNearestWithin a b max x y

-- ---- two small parts

-- Each fraction has at most one nearest fraction with two small parts.
abbrev pub NearestPartsAreOnly : Type 0
NearestPartsAreOnly = (n d max num den : ℤ) → AreNearestParts n d max num den → IsOnly (λ (u, v). AreNearestParts n d max u v) (num, den)

-- ---- sums and products

-- Equal fractions have equal sums.
abbrev pub SumsOfEqualFractions : Type 0
SumsOfEqualFractions = (a b c d e f g h : ℤ) → AreEqual a b e f → AreEqual c d g h
    → AreEqual (a *ℤ d +ℤ c *ℤ b) (b *ℤ d) (e *ℤ h +ℤ g *ℤ f) (f *ℤ h)

-- Equal fractions have equal products.
abbrev pub ProductsOfEqualFractions : Type 0
ProductsOfEqualFractions = (a b c d e f g h : ℤ) → AreEqual a b e f → AreEqual c d g h
    → AreEqual (a *ℤ c) (b *ℤ d) (e *ℤ g) (f *ℤ h)

-- ---- decimal numbers

-- The string of a decimal number spells it.
abbrev pub DecimalIsSpelled : Type 0
DecimalIsSpelled = (x : Decimal) → SpellsDecimal (decimal_text (units_of x) (places_of x)) (units_of x) (places_of x)

-- Each string spells at most one decimal number.
abbrev pub SpelledDecimalIsOnly : Type 0
SpelledDecimalIsOnly = (text : List ℕ) (units : ℤ) (places : ℕ) → SpellsDecimal text units places → IsOnly (λ (u, p). SpellsDecimal text u p) (units, places)

-- Each number of units and of places are those of at most one decimal number.
abbrev pub DecimalOfPartsIsOnly : Type 0
DecimalOfPartsIsOnly = (x y : Decimal) → units_of x ≡ units_of y → places_of x ≡ places_of y → x ≡ y

-- Decimal numbers compare as the fractions of their units over 10^places do.
abbrev pub DecimalsCompareAsFractions : Type 0
DecimalsCompareAsFractions = (x y : Decimal) → int_cmp (quintillionths_of x) (quintillionths_of y)
    ≡ fraction_cmp (units_of x) (pos (10 ^ places_of x)) (units_of y) (pos (10 ^ places_of y))

-- Each string is parsed as only one result of a decimal number.
abbrev pub ReadDecimalIsOnly : Type 0
ReadDecimalIsOnly = (text : List ℕ) (r s : Result Decimal ParseDecimalError) → ReadsDecimal text r → ReadsDecimal text s → r ≡ s

-- The string of a decimal number is parsed as that number, with as many places.
abbrev pub DecimalIsReadBack : Type 0
DecimalIsReadBack = (x : Decimal) (r : Result Decimal ParseDecimalError) → ReadsDecimal (decimal_text (units_of x) (places_of x)) r → r ≡ Ok x

-- ---- strings

-- Each string is parsed as only one result.
abbrev pub ReadingIsOnly : Type 0
ReadingIsOnly = (text : List ℕ) (r s : Result Ratio ParseRatioError) → ReadsFraction text r → ReadsFraction text s → r ≡ s

-- The string of a fraction is parsed as that fraction.
abbrev pub TextIsReadBack : Type 0
TextIsReadBack = (x : Ratio) (r : Result Ratio ParseRatioError) → FitsSigned w64 (num_of x) → FitsSigned w64 (den_of x)
    → ReadsFraction (text_of x) r → r ≡ Ok x
