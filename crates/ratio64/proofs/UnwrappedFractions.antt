-- The fraction that a call makes of two numbers.
use Rattle.ratio64.proofs.Common.{◌≡◌, ℤ, Ok, Result, FitsSigned, of_z, to_z, to_z-of_z, w64, IsExact, AnswersFraction, Ratio, RatioError, den_of, num_of}
use Rattle.ratio64.proofs.FractionAnswers.{at_ok}

-- What is exact of the words of two numbers is exact of the numbers.
pub exact_of_words : {a b n d : ℤ} → FitsSigned w64 a → FitsSigned w64 b
    → IsExact (to_z w64 (of_z w64 a)) (to_z w64 (of_z w64 b)) n d → IsExact a b n d
exact_of_words a_fits b_fits exact = rw (to_z-of_z w64 _ a_fits, to_z-of_z w64 _ b_fits) at exact

-- What `unwrap` returns of `Ratio::new(a, b)` is the exact result of a/b.
pub unwrapped_is_exact : {a b : ℤ} {r : Result Ratio RatioError} {x : Ratio} → FitsSigned w64 a → FitsSigned w64 b → r ≡ Ok x
    → AnswersFraction (to_z w64 (of_z w64 a)) (to_z w64 (of_z w64 b)) r → IsExact a b (num_of x) (den_of x)
unwrapped_is_exact a_fits b_fits ok h = exact_of_words a_fits b_fits (at_ok (λ x. IsExact _ _ (num_of x) (den_of x)) ok h.exact)
