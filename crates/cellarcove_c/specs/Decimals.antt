-- Decimal numbers, with a status.
use Rattle.std.specs.Prelude.{◌≡◌, ◌↔◌, ◌<◌, ◌≤◌, ◌+◌, ◌*◌, ◌^◌, ◌<ℤ◌, ◌*ℤ◌, ℕ, ℤ, Bool, false, pos, unsigned_abs, IsTrue, Result, MatchResult}
use Rattle.ratio64.specs.Ratio.{AnswersFraction, den_of, num_of}
use Rattle.ratio64.specs.RatioError.{number_of}
use Rattle.ratio64.specs.Rounding.{IsRoundedEven}
use Rattle.ratio64.specs.declared.error.RatioError.{RatioError}
use Rattle.ratio64.specs.declared.fraction.Ratio.{Ratio}
use Rattle.cellarcove_c.specs.Answers.{Answers}
use Rattle.cellarcove_c.specs.Statuses.{StatusIs, outside}
use Rattle.cellarcove_c.specs.declared.decimals.DecimalAnswer.{DecimalAnswer}
use Rattle.cellarcove_c.specs.declared.fractions.Fraction.{Fraction}

-- The sign, the integer part and the digits after the point are those of the number times 10^places. The digits are fewer than 10^places.
-- Examples: of -205 and 2 places: negative, 2 and 5; of -5 and 2: negative, 0 and 5; of 7 and 0: not negative, 7 and 0.
pub record HasDigits (units : ℤ) (places : ℕ) (negative : Bool) (whole part : ℕ) : Type 0 where
  pub sign : IsTrue negative ↔ (units <ℤ pos 0)
  pub size : unsigned_abs units ≡ whole * 10 ^ places + part
  pub below : part < 10 ^ places

-- They are those of the decimal number with so many places that is nearest to n/d. Of two that are equally near, it is the one whose last digit is even.
-- Examples: of 1234/5 and 2 places: not negative, 246 and 80; of -1/20 and 2: negative, 0 and 5; of -1/20 and 1: not negative, 0 and 0.
pub record IsInDigits (n d : ℤ) (places : ℕ) (negative : Bool) (whole part : ℕ) : Type 0 where
  pub units : ℤ
  pub rounded : IsRoundedEven (n *ℤ pos (10 ^ places)) d units
  pub digits : HasDigits units places negative whole part

-- The result is a fraction, which is reduced first, as a decimal number, or `outside` if there are more than 18 places.
-- Examples: 2468/10 and 2 places: 0, not negative, 246 and 80; 1/0 and 19: 1 and zeros; 1/2 and 19: 3 and zeros.
abbrev pub AnswersDecimal : Fraction → ℕ → DecimalAnswer → Type 0
AnswersDecimal a places answer = (p : Result Ratio RatioError) × AnswersFraction a.num a.den p
    × MatchResult p (λ x. Answers {A = Bool × ℕ × ℕ} (places ≤ 18) (λ (negative, whole, part). IsInDigits (num_of x) (den_of x) places negative whole part)
    (StatusIs outside) (false, 0, 0) answer.status (answer.is_negative, answer.whole, answer.part))
    (λ e. answer ≡ record { status = number_of e; is_negative = false; whole = 0; part = 0 })
