-- The fractions of a call.
use Rattle.std.specs.Prelude.{ℤ}
use Rattle.ratio64.specs.Fraction.{IsExact, IsOutsideI64}
use Rattle.ratio64.specs.Ratio.{num_of, den_of}
use Rattle.ratio64.specs.declared.fraction.Ratio.{Ratio}

-- The ratio is the exact result of the fraction a/b, and its parts fit in `i64`.
-- Examples: of 6/-4: -3/2; of 0/-9: 0/1; 1/MIN has no such ratio.
pub record IsRatioOf (a b : ℤ) (x : Ratio) : Type 0 where
  pub exact : IsExact a b (num_of x) (den_of x)
  pub inside : ¬ (IsOutsideI64 a b)
