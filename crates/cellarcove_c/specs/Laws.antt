-- The laws of what the calls for C say. Each is proved in proofs/Laws.antt, by a lemma of its name in small letters.
use Rattle.std.specs.Prelude.{◌≡◌, ◌⊎◌, ◌<ℤ◌, ℕ, ℤ, Bool, List, pos, FitsSigned, IfSome, Option, Result}
use Rattle.std.specs.Int.{w64}
use Rattle.std.specs.declared.cmp.Ordering.{Ordering}
use Rattle.calendar.specs.Months.{IsDate}
use Rattle.calendar.specs.declared.date.Date.{Date}
use Rattle.calendar.specs.declared.weekday.Weekday.{Weekday}
use Rattle.ratio64.specs.declared.decimal.Decimal.{Decimal}
use Rattle.ratio64.specs.declared.decimal.reading.ParseDecimalError.{ParseDecimalError}
use Rattle.ratio64.specs.declared.error.RatioError.{RatioError}
use Rattle.ratio64.specs.declared.fraction.Ratio.{Ratio}
use Rattle.ratio64.specs.declared.parse.ParseRatioError.{ParseRatioError}
use Rattle.modular.specs.declared.congruent_numbers.Congruence.{Congruence}
use Rattle.cellarcove_c.specs.Answers.{Answers}
use Rattle.cellarcove_c.specs.ArraySums.{AreSums}
use Rattle.cellarcove_c.specs.Congruences.{AnswersModulo, IsClassOfBoth, IsNextOfSeveral}
use Rattle.cellarcove_c.specs.Dates.{IsDayOfIsoNumber, IsMonthsLater, IsOfIsoNumber, MatchMonthsBetween, MatchYearsBetween}
use Rattle.cellarcove_c.specs.DateTexts.{ReadsDate}
use Rattle.cellarcove_c.specs.Decimals.{IsInDigits}
use Rattle.cellarcove_c.specs.Fractions.{AnswersFract, IsInParts, IsPower, OnBothFractions, Represents, StandsForNumber, order_number}
use Rattle.cellarcove_c.specs.Paging.{IsFewestPages, IsPadding}
use Rattle.cellarcove_c.specs.Quotients.{AreFloored}
use Rattle.cellarcove_c.specs.Roots.{IsRootWithRest}
use Rattle.cellarcove_c.specs.Statuses.{IsReason}
use Rattle.cellarcove_c.specs.Texts.{StandsForDecimal, StandsForRead}
use Rattle.cellarcove_c.specs.declared.dates.Date.{Date as Parts}
use Rattle.cellarcove_c.specs.declared.fractions.Fraction.{Fraction}
use Rattle.cellarcove_c.specs.declared.fractions.FractionAnswer.{FractionAnswer}

-- ---- statuses

-- Each divisor has at most one status that says why there is no quotient.
abbrev pub ReasonIsOnly : Type 0
ReasonIsOnly = (divisor : ℤ) (s t : ℕ) → IsReason (divisor ≡ pos 0) s → IsReason (divisor ≡ pos 0) t → s ≡ t

-- If the property has at most one value and there is at most one reason, a call has at most one status and one value.
abbrev pub AnswersIsOnly : {A : Type 0} → Type 0 → (A → Type 0) → (ℕ → Type 0) → Type 0
AnswersIsOnly {A} domain Is Reason = (zeros : A) (s t : ℕ) (a b : A) → ((x y : A) → Is x → Is y → x ≡ y) → ((p q : ℕ) → Reason p → Reason q → p ≡ q)
    → Answers domain Is Reason zeros s a → Answers domain Is Reason zeros t b → (s ≡ t) × (a ≡ b)

-- If the property has at most one value, and none where the fact `without` holds, a call modulo a number has at most one status
-- and one value.
abbrev pub AnswersModuloIsOnly : {A : Type 0} → ℤ → ℕ → Type 0 → (A → Type 0) → Type 0
AnswersModuloIsOnly {A} modulus reason without Is = (zeros : A) (s t : ℕ) (a b : A) → ((x y : A) → Is x → Is y → x ≡ y) → (without → (x : A) → ¬ (Is x))
    → AnswersModulo modulus reason without Is zeros s a → AnswersModulo modulus reason without Is zeros t b → (s ≡ t) × (a ≡ b)

-- ---- congruences

-- If no two values have one number, and each number fits or does not, two congruences have at most one status and one class.
abbrev pub ClassOfBothIsOnly : {X : Type 0} → (X → ℤ) → (ℤ → Type 0) → Type 0
ClassOfBothIsOnly {X} value fits = (a m b n : ℤ) (zeros : X × X) (s t : ℕ) (c d : X × X) → ((x y : X) → value x ≡ value y → x ≡ y) → ((z : ℤ) → fits z ⊎ (¬ (fits z)))
    → IsClassOfBoth value fits a m b n zeros s c → IsClassOfBoth value fits a m b n zeros t d → (s ≡ t) × (c ≡ d)

-- If no two values have one number, several congruences have at most one status and one value whose number fits.
abbrev pub NextOfSeveralIsOnly : {X : Type 0} → (X → ℤ) → (ℤ → Type 0) → Type 0
NextOfSeveralIsOnly {X} value fits = (from : ℤ) (congruences : List (Congruence X)) (zero_value : X) (s t : ℕ) (x y : X) → ((p q : X) → value p ≡ value q → p ≡ q)
    → fits (value x) → fits (value y) → IsNextOfSeveral value fits from congruences zero_value s x → IsNextOfSeveral value fits from congruences zero_value t y → (s ≡ t) × (x ≡ y)

-- ---- numbers

-- Numbers have at most one list of quotients by a divisor.
abbrev pub FlooredListIsOnly : Type 0
FlooredListIsOnly = (divisor : ℤ) (numbers p q : List ℤ) → AreFloored divisor numbers p → AreFloored divisor numbers q → p ≡ q

-- Two lists have at most one list of sums.
abbrev pub SummedListIsOnly : Type 0
SummedListIsOnly = (a b p q : List ℤ) → AreSums a b p → AreSums a b q → p ≡ q

-- Each number of items has at most one fewest number of pages.
abbrev pub FewestPagesIsOnly : Type 0
FewestPagesIsOnly = (items page_size a b : ℤ) → IsFewestPages items page_size a → IsFewestPages items page_size b → a ≡ b

-- Each offset has at most one padding for an alignment.
abbrev pub PaddingIsOnly : Type 0
PaddingIsOnly = (offset alignment a b : ℤ) → IsPadding offset alignment a → IsPadding offset alignment b → a ≡ b

-- Each number has at most one square root with a rest.
abbrev pub RootWithRestIsOnly : Type 0
RootWithRestIsOnly = (x root other rest left : ℤ) → IsRootWithRest x root rest → IsRootWithRest x other left → (root ≡ other) × (rest ≡ left)

-- ---- fractions

-- Each result has at most one status and one pair of numbers.
abbrev pub StandsForIsOnly : Type 0
StandsForIsOnly = (answered : Result Ratio RatioError) (s t : ℕ) (a b c d : ℤ) → Represents answered s a b → Represents answered t c d → (s ≡ t) × (a ≡ c) × (b ≡ d)

-- If a property has at most one number for each fraction, each result has at most one status and one number.
abbrev pub StandsForNumberIsOnly : (Ratio → ℤ → Type 0) → Type 0
StandsForNumberIsOnly Says = (answered : Result Ratio RatioError) (s t : ℕ) (a b : ℤ) → ((x : Ratio) → Says x a → Says x b → a ≡ b)
    → StandsForNumber answered s a (λ x. Says x a) → StandsForNumber answered t b (λ x. Says x b) → (s ≡ t) × (a ≡ b)

-- If there is at most one value for each two fractions, and at most one for each error, there is at most one for two results.
abbrev pub OnBothIsOnly : {A : Type 0} → (A → Ratio → Ratio → Type 0) → (A → RatioError → Type 0) → Type 0
OnBothIsOnly {A} Says Refuses = (x y : Result Ratio RatioError) (a b : A) → ((p q : Ratio) → Says a p q → Says b p q → a ≡ b)
    → ((e : RatioError) → Refuses a e → Refuses b e → a ≡ b) → OnBothFractions x y (Says a) (Refuses a) → OnBothFractions x y (Says b) (Refuses b) → a ≡ b

-- Each fraction has at most one power of a degree.
abbrev pub PowerIsOnly : Type 0
PowerIsOnly = (exponent : ℤ) (x : Ratio) (r s : Result Ratio RatioError) → IsPower exponent x r → IsPower exponent x s → r ≡ s

-- If a rounding of each fraction is at most one number, each fraction has at most one result in parts.
abbrev pub InPartsIsOnly : (ℤ → ℤ → ℤ → Type 0) → Type 0
InPartsIsOnly IsRounded = (parts : ℤ) (x : Ratio) (r s : Result Ratio RatioError) → ((n d p q : ℤ) → pos 0 <ℤ d → IsRounded n d p → IsRounded n d q → p ≡ q)
    → IsInParts IsRounded parts x r → IsInParts IsRounded parts x s → r ≡ s

-- Each fraction has at most one sign, integer part and digits after the point.
abbrev pub InDigitsIsOnly : Type 0
InDigitsIsOnly = (n d : ℤ) (places : ℕ) (a b : Bool) (whole other part rest : ℕ) → pos 0 <ℤ d → IsInDigits n d places a whole part → IsInDigits n d places b other rest
    → (a ≡ b) × (whole ≡ other) × (part ≡ rest)

-- Each fraction has at most one status and one fractional part.
abbrev pub FractIsOnly : Type 0
FractIsOnly = (a : Fraction) (x y : FractionAnswer) → AnswersFract a x → AnswersFract a y
    → (x.status ≡ y.status) × (x.value.num ≡ y.value.num) × (x.value.den ≡ y.value.den)

-- Each result of reading has at most one status and one pair of numbers.
abbrev pub StandsForReadIsOnly : Type 0
StandsForReadIsOnly = (read : Result Ratio ParseRatioError) (s t : ℕ) (a b c d : ℤ) → StandsForRead read s a b → StandsForRead read t c d → (s ≡ t) × (a ≡ c) × (b ≡ d)

-- Each result of reading a decimal number has at most one status and one pair of numbers.
abbrev pub StandsForDecimalIsOnly : Type 0
StandsForDecimalIsOnly = (read : Result Decimal ParseDecimalError) (s t : ℕ) (a b c d : ℤ) → StandsForDecimal read s a b → StandsForDecimal read t c d → (s ≡ t) × (a ≡ c) × (b ≡ d)

-- Each number is that of at most one order.
abbrev pub OrderNumberIsOnly : Type 0
OrderNumberIsOnly = (a b : Ordering) → order_number a ≡ order_number b → a ≡ b

-- ---- dates

-- Each date has at most one date a number of months later.
abbrev pub MonthsLaterIsOnly : Type 0
MonthsLaterIsOnly = (from_year months a_year b_year : ℤ) (from_month from_day a_month a_day b_month b_day : ℕ) → IsDate a_year a_month a_day → IsDate b_year b_month b_day
    → IsMonthsLater from_year from_month from_day months a_year a_month a_day → IsMonthsLater from_year from_month from_day months b_year b_month b_day
    → (a_year ≡ b_year) × (a_month ≡ b_month) × (a_day ≡ b_day)

-- From each date to each other there is at most one number of months that fits, or none at all.
abbrev pub MonthsBetweenIsOnly : Type 0
MonthsBetweenIsOnly = (year to_year : ℤ) (month day to_month to_day : ℕ) (a b : Option ℤ) → IfSome a (FitsSigned w64) → IfSome b (FitsSigned w64)
    → MatchMonthsBetween year month day to_year to_month to_day a → MatchMonthsBetween year month day to_year to_month to_day b → a ≡ b

-- From each date to each other there is at most one number of years that fits, or none at all.
abbrev pub YearsBetweenIsOnly : Type 0
YearsBetweenIsOnly = (year to_year : ℤ) (month day to_month to_day : ℕ) (a b : Option ℤ) → IfSome a (FitsSigned w64) → IfSome b (FitsSigned w64)
    → MatchYearsBetween year month day to_year to_month to_day a → MatchYearsBetween year month day to_year to_month to_day b → a ≡ b

-- If each day of the week has at most one date with a property, each ISO number has at most one.
abbrev pub OfIsoNumberIsOnly : (Weekday → Date → Type 0) → Type 0
OfIsoNumberIsOnly Is = (weekday : ℕ) (year other : ℤ) (month day other_month other_day : ℕ) → ((w : Weekday) (a b : Date) → Is w a → Is w b → a ≡ b)
    → IsOfIsoNumber weekday Is year month day → IsOfIsoNumber weekday Is other other_month other_day → (year ≡ other) × (month ≡ other_month) × (day ≡ other_day)

-- If each day of the week has at most one day with a property, each ISO number has at most one.
abbrev pub DayOfIsoNumberIsOnly : (Weekday → ℤ → Type 0) → Type 0
DayOfIsoNumberIsOnly Is = (weekday : ℕ) (a b : ℤ) → ((w : Weekday) (x y : ℤ) → Is w x → Is w y → x ≡ y) → IsDayOfIsoNumber weekday Is a → IsDayOfIsoNumber weekday Is b → a ≡ b

-- Each text is read as at most one date.
abbrev pub ReadDateIsOnly : Type 0
ReadDateIsOnly = (text : List ℕ) (s t : ℕ) (a b : Parts) → FitsSigned w64 a.year → FitsSigned w64 b.year
    → ReadsDate text (record { status = s; date = a }) → ReadsDate text (record { status = t; date = b })
    → (s ≡ t) × (a.year ≡ b.year) × (a.month ≡ b.month) × (a.day_of_month ≡ b.day_of_month)
