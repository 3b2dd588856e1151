-- Results that are fractions, with a status.
use Rattle.std.specs.Prelude.{◌≡◌, ◌<ℤ◌, ◌≤ℤ◌, ◌+ℤ◌, ◌-ℤ◌, ◌*ℤ◌, ℤ, ℕ, pos, neg_ℤ, negsuc, unsigned_abs, Result, Err, MatchResult}
use Rattle.std.specs.Int.{int_pow}
use Rattle.std.specs.declared.cmp.Ordering.{Ordering}
use Rattle.std.specs.declared.cmp.Ordering.TheVariants.{Equal, Greater, Less}
use Rattle.num_integer.specs.Division.{IsRemainder, IsTruncated}
use Rattle.ratio64.specs.Ratio.{AnswersFraction, num_of, den_of}
use Rattle.ratio64.specs.RatioError.{number_of}
use Rattle.ratio64.specs.Rounding.{AnswersInParts}
use Rattle.ratio64.specs.declared.fraction.Ratio.{Ratio}
use Rattle.ratio64.specs.declared.error.RatioError.{RatioError}
use Rattle.cellarcove_c.specs.Answers.{I64Fitting}
use Rattle.cellarcove_c.specs.declared.answers.I64Answer.{I64Answer}
use Rattle.cellarcove_c.specs.declared.fractions.Fraction.{Fraction}
use Rattle.cellarcove_c.specs.declared.fractions.FractionAnswer.{FractionAnswer}

-- Two results hold fractions of which a property holds, or the first error of the two has another.
-- Examples: of 'are equal' and 'is `ZeroDenominator`': 1/2 and 1/2; `ZeroDenominator` and 1/2; not 1/2 and 1/3.
abbrev pub OnBothFractions : Result Ratio RatioError → Result Ratio RatioError → (Ratio → Ratio → Type 0) → (RatioError → Type 0) → Type 0
OnBothFractions x y says refuses = MatchResult x (λ p. MatchResult y (λ q. says p q) (λ e. refuses e)) (λ e. refuses e)

-- A status and two numbers are 0 and the parts of a fraction, or the number of an error and zeros.
-- Examples: of -3/2: 0, -3 and 2; of `ZeroDenominator`: 1, 0 and 0.
abbrev pub Represents : Result Ratio RatioError → ℕ → ℤ → ℤ → Type 0
Represents answered status num den = MatchResult answered (λ x. (status ≡ 0) × (num ≡ num_of x) × (den ≡ den_of x))
    (λ e. (status ≡ number_of e) × (num ≡ pos 0) × (den ≡ pos 0))

-- A status is 0 and the number has a property of a fraction, or it is the number of an error and the number is 0.
-- Examples: of -3/2 rounded down: 0 and -2; of `ZeroDenominator`: 1 and 0.
abbrev pub StandsForNumber : Result Ratio RatioError → ℕ → ℤ → (Ratio → Type 0) → Type 0
StandsForNumber answered status value says = MatchResult answered (λ x. (status ≡ 0) × says x) (λ e. (status ≡ number_of e) × (value ≡ pos 0))

-- The number of an order is -1, 0 or 1.
-- Examples: of `Less`: -1.
abbrev pub order_number : Ordering → ℤ
order_number Less = negsuc 0
order_number Equal = pos 0
order_number Greater = pos 1

-- ---- of two fractions

-- The sum of two fractions, or the first error.
-- Examples: 1/2 and 1/3: 5/6; `ZeroDenominator` and 1/3: `ZeroDenominator`.
abbrev pub IsSumOf : Result Ratio RatioError → Result Ratio RatioError → Result Ratio RatioError → Type 0
IsSumOf a b r = OnBothFractions a b (λ x y. AnswersFraction (num_of x *ℤ den_of y +ℤ num_of y *ℤ den_of x) (den_of x *ℤ den_of y) r) (λ e. r ≡ Err e)

-- The difference of two fractions, or the first error.
-- Examples: 1/2 and 1/3: 1/6.
abbrev pub IsDifferenceOf : Result Ratio RatioError → Result Ratio RatioError → Result Ratio RatioError → Type 0
IsDifferenceOf a b r = OnBothFractions a b (λ x y. AnswersFraction (num_of x *ℤ den_of y -ℤ num_of y *ℤ den_of x) (den_of x *ℤ den_of y) r) (λ e. r ≡ Err e)

-- The product of two fractions, or the first error.
-- Examples: 2/3 and 3/4: 1/2.
abbrev pub IsProductOf : Result Ratio RatioError → Result Ratio RatioError → Result Ratio RatioError → Type 0
IsProductOf a b r = OnBothFractions a b (λ x y. AnswersFraction (num_of x *ℤ num_of y) (den_of x *ℤ den_of y) r) (λ e. r ≡ Err e)

-- The quotient of two fractions, or the first error.
-- Examples: -1/2 and -3/4: 2/3; 1/2 and 0/1: `ZeroDenominator`.
abbrev pub IsQuotientOf : Result Ratio RatioError → Result Ratio RatioError → Result Ratio RatioError → Type 0
IsQuotientOf a b r = OnBothFractions a b (λ x y. AnswersFraction (num_of x *ℤ den_of y) (num_of y *ℤ den_of x) r) (λ e. r ≡ Err e)

-- The result is that of two fractions, which are reduced first.
-- Examples: of sums: 2/4 and 1/3: 0, 5 and 6; 1/0 and 1/3: 1, 0 and 0.
abbrev pub AnswersOfTwo : (Result Ratio RatioError → Result Ratio RatioError → Result Ratio RatioError → Type 0) → Fraction → Fraction → FractionAnswer → Type 0
AnswersOfTwo Is a b answer = (p q r : Result Ratio RatioError) × AnswersFraction a.num a.den p × AnswersFraction b.num b.den q
    × Is p q r × Represents r answer.status answer.value.num answer.value.den

-- ---- of one fraction

-- The result of a call of a fraction, or the error of the fraction.
-- Examples: of 'is the reciprocal': of 2/3: 3/2; of `ZeroDenominator`: `ZeroDenominator`.
abbrev pub OnOne : (Ratio → Result Ratio RatioError → Type 0) → Result Ratio RatioError → Result Ratio RatioError → Type 0
OnOne Is a r = MatchResult a (λ x. Is x r) (λ e. r ≡ Err e)

-- The reciprocal of a fraction.
-- Examples: of -2/3: -3/2; of 0/1: `ZeroDenominator`.
abbrev pub IsReciprocal : Ratio → Result Ratio RatioError → Type 0
IsReciprocal x r = AnswersFraction (den_of x) (num_of x) r

-- The negation of a fraction.
-- Examples: of -3/2: 3/2; of -2^63/1: `NotFitting`.
abbrev pub IsNegation : Ratio → Result Ratio RatioError → Type 0
IsNegation x r = AnswersFraction (neg_ℤ (num_of x)) (den_of x) r

-- The magnitude of a fraction.
-- Examples: of -3/2: 3/2; of -2^63/1: `NotFitting`.
abbrev pub IsMagnitude : Ratio → Result Ratio RatioError → Type 0
IsMagnitude x r = AnswersFraction (pos (unsigned_abs (num_of x))) (den_of x) r

-- The power of a fraction, which for a negative exponent is that of the reciprocal.
-- Examples: of 2/3 and 2: 4/9; of 2/3 and -1: 3/2; of 0/1 and -1: `ZeroDenominator`.
pub record IsPower (exponent : ℤ) (x : Ratio) (r : Result Ratio RatioError) : Type 0 where
  pub from_zero : pos 0 ≤ℤ exponent → AnswersFraction (int_pow (num_of x) (unsigned_abs exponent)) (int_pow (den_of x) (unsigned_abs exponent)) r
  pub below_zero : exponent <ℤ pos 0 → AnswersFraction (int_pow (den_of x) (unsigned_abs exponent)) (int_pow (num_of x) (unsigned_abs exponent)) r

-- A fraction times n/d.
-- Examples: 2/3 times 9/4: 3/2; 2/3 times 1/0: `ZeroDenominator`.
abbrev pub IsTimes : ℤ → ℤ → Ratio → Result Ratio RatioError → Type 0
IsTimes n d x r = AnswersFraction (num_of x *ℤ n) (d *ℤ den_of x) r

-- A fraction rounded in one way to a multiple of 1/parts.
-- Examples: of rounding down, in quarters: of 5/3: 3/2.
abbrev pub IsInParts : (ℤ → ℤ → ℤ → Type 0) → ℤ → Ratio → Result Ratio RatioError → Type 0
IsInParts IsRounded parts x r = AnswersInParts (IsRounded (num_of x *ℤ parts) (den_of x)) parts r

-- The result is that of a fraction, which is reduced first.
-- Examples: of negations: 2/4: 0, -1 and 2; 1/0: 1, 0 and 0.
abbrev pub AnswersOfOne : (Ratio → Result Ratio RatioError → Type 0) → Fraction → FractionAnswer → Type 0
AnswersOfOne Is a answer = (p r : Result Ratio RatioError) × AnswersFraction a.num a.den p
    × OnOne Is p r × Represents r answer.status answer.value.num answer.value.den

-- ---- rounded

-- The result is a fraction, which is reduced first, rounded in one way.
-- Examples: of rounding down: -6/4: 0 and -2; 1/0: 1 and 0.
abbrev pub AnswersRounded : (ℤ → ℤ → ℤ → Type 0) → Fraction → I64Answer → Type 0
AnswersRounded IsRounded a answer = (p : Result Ratio RatioError) × AnswersFraction a.num a.den p
    × StandsForNumber p answer.status answer.value (λ x. IsRounded (num_of x) (den_of x) answer.value)

-- The result is a fraction, which is reduced first, times a number, rounded in one way.
-- Examples: of rounding down: 4/6 and 100: 0 and 66; 1/0 and 100: 1 and 0; 2/1 and 2^62: 2 and 0.
abbrev pub AnswersRoundedTimes : (ℤ → ℤ → ℤ → Type 0) → Fraction → ℤ → I64Answer → Type 0
AnswersRoundedTimes IsRounded a n answer = (p : Result Ratio RatioError) × AnswersFraction a.num a.den p
    × MatchResult p (λ x. I64Fitting (IsRounded (num_of x *ℤ n) (den_of x)) answer)
    (λ e. answer ≡ record { status = number_of e; value = pos 0 })

-- The result is a fraction, which is reduced first, minus itself rounded toward 0.
-- Examples: -6/4: 0, -1 and 2; 1/0: 1, 0 and 0.
abbrev pub AnswersFract : Fraction → FractionAnswer → Type 0
AnswersFract a answer = (p : Result Ratio RatioError) × AnswersFraction a.num a.den p
    × MatchResult p (λ x. (answer.status ≡ 0) × IsRemainder IsTruncated (num_of x) (den_of x) answer.value.num × (answer.value.den ≡ den_of x))
    (λ e. answer ≡ record { status = number_of e; value = record { num = pos 0; den = pos 0 } })
