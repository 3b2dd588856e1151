-- A kind and a call have at most one outcome.
use Rattle.intcalc_core.proofs.Common.{arith, ◌≡◌, ◌⊎◌, ◌↔◌, ◌+ℤ◌, ◌*ℤ◌, ℤ, unsigned_abs, Bool, IsTrue, Result, Ok, Err, refl, sym, ap, ◌∙◌, IsAverageFloor, IsAverageCeil, IsBezoutAnswer, coefficient_of, IsCeiled, IsFloored, IsMultiple, IsQuotient, IsRemainder, IsTruncated, IsGreatestCommonDivisor, IsLeastCommonMultiple, IsRoot, average_ceil_is_only, average_floor_is_only, bezout_answer_is_only, division_is_only, gcd_is_only, lcm_is_only, multiple_is_only, quotient_is_only, remainder_is_only, root_is_only, Answer, Two, Three, Call, DivRem, DivModFloor, DivFloor, DivCeil, ModFloor, NextMultipleOf, PrevMultipleOf, IsMultipleOf, Gcd, Lcm, GcdLcm, ExtendedGcd, AverageFloor, AverageCeil, Sqrt, Cbrt, NthRoot, Binomial, RatioAdd, RatioMul, Kind, Refusal, AnswersOne, AnswersTwo, AnswersThree, AnswersWhether, AreGcdAndLcm, FitsKind, OutcomeOfFitting, NeedsFractions, AnswersExact, Outcome, IsExact, exact_result_is_only}
use Rattle.num_integer.specs.Only.{IsOnly}

-- if the rest of a condition leaves one result, so does the condition
only_needs : {P R S : Type 0} {refusal : Refusal} {r s : Result Answer Refusal} → (R → S → s ≡ r)
    → (¬ P × (r ≡ Err refusal)) ⊎ (P × R) → (¬ P × (s ≡ Err refusal)) ⊎ (P × S) → s ≡ r
only_needs only h k = grind arith

only_one : (P : ℤ → Type 0) {r s : Result Answer Refusal} → ((n : ℤ) → P n → IsOnly P n) → AnswersOne P r → AnswersOne P s → s ≡ r
only_one P only h k = let e = only h.number h.meets k.number k.meets in cc

only_two : (P : ℤ → ℤ → Type 0) {r s : Result Answer Refusal}
    → ((m n : ℤ) → P m n → IsOnly (λ (p, q). P p q) (m, n)) → AnswersTwo P r → AnswersTwo P s → s ≡ r
only_two P only h k =
    let e = only h.first h.second h.meets (k.first, k.second) k.meets in
    k.is ∙ ap (λ (t : ℤ × ℤ). Ok (Two t.0 t.1)) e ∙ sym h.is

only_bezout : {a b : ℤ} {r s : Result Answer Refusal} → AnswersThree (IsBezoutAnswer a b) r → AnswersThree (IsBezoutAnswer a b) s → s ≡ r
only_bezout {a} {b} h k =
    let e = bezout_answer_is_only a b _ _ _ h.meets (k.first, k.second, k.third) k.meets in
    k.is ∙ ap (λ (t : ℤ × ℤ × ℤ). Ok (Three t.0 t.1 t.2)) e ∙ sym h.is

only_truth : {P : Type 0} (b c : Bool) → IsTrue b ↔ P → IsTrue c ↔ P → b ≡ c
only_truth b c h k = grind arith

only_whether : {P : Type 0} {r s : Result Answer Refusal} → AnswersWhether P r → AnswersWhether P s → s ≡ r
only_whether h k = let e = only_truth h.truth k.truth h.tells k.tells in cc

only_gcd_and_lcm : (a b g l : ℤ) → AreGcdAndLcm a b g l → IsOnly (λ (h, m). AreGcdAndLcm a b h m) (g, l)
only_gcd_and_lcm a b g l h (i, m) k = rw (gcd_is_only a b g h.greatest i k.greatest, lcm_is_only a b l h.least m k.least) refl

-- fractions have one result m/n
only_fractions : {a b c d : ℤ} (m n : ℤ) {r s : Result Answer Refusal}
    → NeedsFractions a b c d (AnswersExact m n) r → NeedsFractions a b c d (AnswersExact m n) s → s ≡ r
only_fractions m n = only_needs (only_needs (only_needs (only_needs (only_needs (only_two (IsExact m n) (exact_result_is_only m n))))))

only_of_fitting : (fits : ℤ → Type 0) (call : Call) (r s : Result Answer Refusal)
    → OutcomeOfFitting fits call r → OutcomeOfFitting fits call s → s ≡ r
unfolding OutcomeOfFitting
only_of_fitting fits (DivRem n d) r s = only_needs (only_needs (only_two (IsTruncated n d) (division_is_only.0 n d)))
only_of_fitting fits (DivModFloor n d) r s = only_needs (only_needs (only_two (IsFloored n d) (division_is_only.1 n d)))
only_of_fitting fits (DivFloor n d) r s = only_needs (only_needs (only_one (IsQuotient IsFloored n d) (quotient_is_only.1 n d)))
only_of_fitting fits (DivCeil n d) r s = only_needs (only_needs (only_one (IsQuotient IsCeiled n d) (quotient_is_only.2 n d)))
only_of_fitting fits (ModFloor n d) r s = only_needs (only_one (IsRemainder IsFloored n d) (remainder_is_only.1 n d))
only_of_fitting fits (NextMultipleOf n d) r s = only_needs (only_needs (only_one (IsMultiple IsCeiled n d) (multiple_is_only.2 n d)))
only_of_fitting fits (PrevMultipleOf n d) r s = only_needs (only_needs (only_one (IsMultiple IsFloored n d) (multiple_is_only.1 n d)))
only_of_fitting fits (IsMultipleOf n d) r s = only_whether
only_of_fitting fits (Gcd a b) r s = only_needs (only_one (IsGreatestCommonDivisor a b) (gcd_is_only a b))
only_of_fitting fits (Lcm a b) r s = only_needs (only_one (IsLeastCommonMultiple a b) (lcm_is_only a b))
only_of_fitting fits (GcdLcm a b) r s = only_needs (only_needs (only_two (AreGcdAndLcm a b) (only_gcd_and_lcm a b)))
only_of_fitting fits (ExtendedGcd a b) r s = only_needs (only_needs only_bezout)
only_of_fitting fits (AverageFloor a b) r s = only_one (IsAverageFloor a b) (average_floor_is_only a b)
only_of_fitting fits (AverageCeil a b) r s = only_one (IsAverageCeil a b) (average_ceil_is_only a b)
only_of_fitting fits (Sqrt x) r s = only_needs (only_one (IsRoot x 2) (root_is_only x 2))
only_of_fitting fits (Cbrt x) r s = only_one (IsRoot x 3) (root_is_only x 3)
only_of_fitting fits (NthRoot x n) r s = only_needs (only_needs (only_one (IsRoot x (unsigned_abs n)) (root_is_only x (unsigned_abs n))))
only_of_fitting fits (Binomial n k) r s = only_needs (only_needs (only_one (λ c. c ≡ coefficient_of n k) (λ _ h _ k. k ∙ sym h)))
only_of_fitting fits (RatioAdd a b c d) r s = only_fractions (a *ℤ d +ℤ c *ℤ b) (b *ℤ d)
only_of_fitting fits (RatioMul a b c d) r s = only_fractions (a *ℤ c) (b *ℤ d)

pub only_outcome : (kind : Kind) (call : Call) (r : Result Answer Refusal) → Outcome kind call r → IsOnly (Outcome kind call) r
only_outcome kind call r outcome s = only_needs (only_needs (only_of_fitting (FitsKind kind) call r s)) outcome
