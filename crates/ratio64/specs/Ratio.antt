-- What callers see of a `Ratio`, and what the calls that make one return.
use Rattle.std.specs.Prelude.{◌≡◌, ◌↔◌, ◌++◌, ℤ, ℕ, List, codes, pos, Result, Err, IfOk, if◌then◌else◌}
use Rattle.std.specs.Fmt.{signed_decimal}
use Rattle.std.specs.Ordering.{int_eq}
use Rattle.ratio64.specs.Fraction.{IsExact, IsOutsideI64}
use Rattle.ratio64.specs.declared.fraction.Ratio.{Ratio}
use Rattle.ratio64.specs.declared.error.RatioError.{RatioError}
use Rattle.ratio64.specs.declared.error.RatioError.TheVariants.{ZeroDenominator, NotFitting}

-- The numerator of a `Ratio` is its first part.
-- Examples: of -3/2: -3; of 0/1: 0; of 3/1: 3.
abbrev pub num_of : Ratio → ℤ
num_of x = x.num

-- The denominator of a `Ratio` is its second part, which is positive.
-- Examples: of -3/2: 2; of 0/1: 1; of 3/1: 1.
abbrev pub den_of : Ratio → ℤ
den_of x = x.den

-- A call that computes a/b returns its exact result, or the error whose condition holds.
-- Examples: 6/-4: -3/2; 1/0: `ZeroDenominator`; 1/MIN: `NotFitting`.
pub record AnswersFraction (a b : ℤ) (result : Result Ratio RatioError) : Type 0 where
  pub exact : IfOk result (λ x. IsExact a b (num_of x) (den_of x))
  pub zero_denominator : (result ≡ Err ZeroDenominator) ↔ (b ≡ pos 0)
  pub not_fitting : (result ≡ Err NotFitting) ↔ IsOutsideI64 a b

-- The string of a fraction is its numerator, then a slash and its denominator if that is not 1.
-- Examples: `-3/2`; `3`; `0`.
abbrev pub text_of : Ratio → List ℕ
text_of x = if int_eq (den_of x) (pos 1) then signed_decimal (num_of x) else signed_decimal (num_of x) ++ codes "/" ++ signed_decimal (den_of x)
