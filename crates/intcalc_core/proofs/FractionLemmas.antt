-- The result of a call on two fractions, by their exact results.
use Rattle.intcalc_core.proofs.Common.{arith, ◌≡◌, ◌≢◌, ◌+ℤ◌, ◌*ℤ◌, ℤ, pos, Result, Ok, Err, IsErrAnd, MatchResult, FitsSigned, w64, w128, ap, inl, inr, refl, to_z, of_z, ◌∙◌, to_z-of_z, err_from_is_err_and, err_is_outside, nonzero_product, ok_is_inside, product_of_exact_results, sum_of_exact_results, IsFraction, IsOutsideI64, AnswersFraction, num_of, den_of, Ratio, RatioError, IsRatioOf, AnswersExact, OutcomeOfFitting, NeedsFractions, NeedsParts, OutcomeIn, PartsFit, Answer, Two, RatioAdd, RatioMul, Refusal, NotFitting}

-- ---- the fractions that are given

-- an error of the operands is the error of each call on them
refused_given : {a b c d m n : ℤ} {r : Result Answer Refusal} → NeedsParts a b c d (λ _. ⊥) r → NeedsParts a b c d (AnswersExact m n) r
refused_given {a} {b} {c} {d} h = grind arith

-- the second lies outside
pub second_outside : {a b c d : ℤ} {x : Ratio} → IsRatioOf a b x → IsFraction c d → IsOutsideI64 c d
    → NeedsFractions a b c d (λ _. ⊥) (Err NotFitting)
second_outside x fraction far = inr (x.exact.fraction, inr (fraction, inr (x.inside, inl (λ inside. inside far, refl))))

-- ---- their sum and product

-- the result is the two parts of the fraction, or the refusal
abbrev pub HasParts : Result Ratio RatioError → Result Answer Refusal → Type 0
HasParts answer r = MatchResult answer (λ z. r ≡ Ok (Two (num_of z) (den_of z))) (λ _. r ≡ Err NotFitting)

-- the answer of a call for m/n
answered : {m n : ℤ} {r : Result Answer Refusal} (answer : Result Ratio RatioError) → n ≢ pos 0 → AnswersFraction m n answer → HasParts answer r
    → AnswersExact m n r
answered (Ok z) fraction h is = inr (ok_is_inside h, record { first = num_of z; second = den_of z; is = is; meets = h.exact })
answered (Err e) fraction h is = inl (λ inside. inside (err_is_outside e fraction h), is)

-- m/(b·d) is asked of the fractions a/b and c/d
asked : {a b c d m : ℤ} {x y : Ratio} {r : Result Answer Refusal} (answer : Result Ratio RatioError) → IsRatioOf a b x → IsRatioOf c d y
    → AnswersFraction m (b *ℤ d) answer → HasParts answer r → NeedsFractions a b c d (AnswersExact m (b *ℤ d)) r
asked answer x y h is =
    let nonzero = nonzero_product x.exact.fraction y.exact.fraction in
    inr (x.exact.fraction, inr (y.exact.fraction, inr (x.inside, inr (y.inside, answered answer nonzero h is))))

-- ---- the calls, whose operands are read back from their bits

abbrev read : ℤ → ℤ
read n = to_z w128 (of_z w128 n)

module _ {a b c d : ℤ} (a_fits : FitsSigned w128 a) (b_fits : FitsSigned w128 b) (c_fits : FitsSigned w128 c) (d_fits : FitsSigned w128 d) (fits : ℤ → Type 0) where
  -- the operands gave an error, which is that of the call
  module _ {e : Refusal} (h : NeedsParts (read a) (read b) (read c) (read d) (λ _. ⊥) (Err e)) (r : Result Answer Refusal) (is : IsErrAnd r (λ f. f ≡ e)) where
    given_error : {m n : ℤ} → NeedsParts a b c d (AnswersExact m n) r
    given_error =
        let given = rw (to_z-of_z w128 a a_fits, to_z-of_z w128 b b_fits, to_z-of_z w128 c c_fits, to_z-of_z w128 d d_fits) at h in
        let same = err_from_is_err_and r is in
        refused_given (rw (same.1, same.2) given)

    pub sum_refused : OutcomeIn fits (RatioAdd a b c d) r
    unfolding OutcomeOfFitting
    sum_refused = given_error

    pub product_refused : OutcomeIn fits (RatioMul a b c d) r
    unfolding OutcomeOfFitting
    product_refused = given_error

  -- the operands gave the fractions x and y
  module _ {x y : Ratio} (h : PartsFit (read a) (read b) (read c) (read d) × IsRatioOf (read a) (read b) x × IsRatioOf (read c) (read d) y) where
    given : PartsFit a b c d × IsRatioOf a b x × IsRatioOf c d y
    given = rw (to_z-of_z w128 a a_fits, to_z-of_z w128 b b_fits, to_z-of_z w128 c c_fits, to_z-of_z w128 d d_fits) at h

    pub sum_outcome : {r : Result Answer Refusal} (answer : Result Ratio RatioError)
        → HasParts answer r → AnswersFraction (num_of x *ℤ den_of y +ℤ num_of y *ℤ den_of x) (den_of x *ℤ den_of y) answer → OutcomeIn fits (RatioAdd a b c d) r
    unfolding OutcomeOfFitting
    sum_outcome answer is k = inr (given.0, asked answer given.1 given.2 (sum_of_exact_results given.1.exact given.2.exact k) is)

    pub product_outcome : {r : Result Answer Refusal} (answer : Result Ratio RatioError)
        → HasParts answer r → AnswersFraction (num_of x *ℤ num_of y) (den_of x *ℤ den_of y) answer → OutcomeIn fits (RatioMul a b c d) r
    unfolding OutcomeOfFitting
    product_outcome answer is k = inr (given.0, asked answer given.1 given.2 (product_of_exact_results given.1.exact given.2.exact k) is)

-- ---- operands that were narrowed to x, y, z and w

-- a narrowed operand is read back from its bits
pub narrowed : (a : ℤ) {x : ℤ} → FitsSigned w128 a
    → (x ≡ to_z w128 (of_z w128 a)) × FitsSigned w64 (to_z w128 (of_z w128 a))
    → (to_z w64 (of_z w64 x) ≡ a) × FitsSigned w64 a
narrowed a fits h =
    let read = rw (to_z-of_z w128 a fits) at h in
    (ap (λ (t : ℤ). to_z w64 (of_z w64 t)) read.0 ∙ to_z-of_z w64 a read.1, read.1)

pub given_or_refused : {a b c d x y z w : ℤ} (r : Result (Ratio × Ratio) Refusal) → (x ≡ a) × FitsSigned w64 a
    → (y ≡ b) × FitsSigned w64 b → (z ≡ c) × FitsSigned w64 c → (w ≡ d) × FitsSigned w64 d
    → MatchResult r (λ (p, q). IsRatioOf x y p × IsRatioOf z w q) (λ refusal. NeedsFractions x y z w (λ _. ⊥) (Err refusal))
    → MatchResult r (λ (p, q). PartsFit a b c d × IsRatioOf a b p × IsRatioOf c d q) (λ refusal. NeedsParts a b c d (λ _. ⊥) (Err refusal))
given_or_refused (Ok x) a_is b_is c_is d_is h =
    let given = rw (a_is.0, b_is.0, c_is.0, d_is.0) at h in
    ((a_is.1, (b_is.1, (c_is.1, (d_is.1, tt)))), given.0, given.1)
given_or_refused (Err refusal) a_is b_is c_is d_is h = inr ((a_is.1, (b_is.1, (c_is.1, (d_is.1, tt)))), rw (a_is.0, b_is.0, c_is.0, d_is.0) at h)
