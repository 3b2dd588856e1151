-- What a call returns for a fraction: its exact result, or an error.
use Rattle.std.specs.Result.{result_ok}
use Rattle.ratio64.proofs.Common.{◌≡◌, ◌≢◌, ◌↔◌, ◌*ℤ◌, ℤ, pos, MatchOption, Option, Some, None, Result, Ok, Err, FitsSigned, IfOk, IsOk, w64, ap, inl, inr, refl, subst, sym, ◌∙◌, is_prop→PathP, cancel, comm, products, IsExact, IsOutsideI64, IsReduced, AnswerIsOnly, RatioOfPartsIsOnly, AnswersFraction, num_of, den_of, IsReduced_prop, Ratio, RatioError, ZeroDenominator, NotFitting}
use Rattle.ratio64.proofs.ExactResults.{only_exact_result}

-- ---- one of them

-- fractions of the same parts are the same
pub only_of_parts : RatioOfPartsIsOnly
only_of_parts x y p q =
    λ i. record { num = p i; den = q i; reduced = is_prop→PathP (λ i. IsReduced (p i) (q i)) (λ i. IsReduced_prop (p i) (q i)) x.reduced y.reduced i }

-- so the exact result is one, and each error is told by its condition
pub only_answer : AnswerIsOnly
only_answer a b (Ok x) (Ok y) h k =
    let same = only_exact_result h.exact k.exact in
    ap Ok (only_of_parts x y same.0 same.1)
only_answer a b (Ok x) (Err ZeroDenominator) h k = h.zero_denominator.1 (k.zero_denominator.0 refl)
only_answer a b (Ok x) (Err NotFitting) h k = h.not_fitting.1 (k.not_fitting.0 refl)
only_answer a b (Err ZeroDenominator) s h k = sym (k.zero_denominator.1 (h.zero_denominator.0 refl))
only_answer a b (Err NotFitting) s h k = sym (k.not_fitting.1 (h.not_fitting.0 refl))

-- ---- what they say

-- if the parts of the exact result fit, it is not outside
pub exact_is_inside : {a b n d : ℤ} → IsExact a b n d → FitsSigned w64 n → FitsSigned w64 d → ¬ (IsOutsideI64 a b)
exact_is_inside exact num_fits den_fits far =
    let same = only_exact_result exact far.exact in
    elim far.outside [
      | inl outside ↦ outside (subst (FitsSigned w64) same.0 num_fits)
      | inr outside ↦ outside (subst (FitsSigned w64) same.1 den_fits)
    ]

-- what a call returns if both parts of the exact result fit
pub exact_answer : {a b : ℤ} (x : Ratio) → IsExact a b (num_of x) (den_of x) → FitsSigned w64 (num_of x) → FitsSigned w64 (den_of x)
    → AnswersFraction a b (Ok x)
exact_answer x exact num_fits den_fits = record {
  exact = exact;
  zero_denominator = (λ e. absurd cc, λ none. absurd (exact.fraction none));
  not_fitting = (λ e. absurd cc, λ far. absurd (exact_is_inside exact num_fits den_fits far));
}

-- a product whose second factor is not 0 is 0 exactly if its first factor is
pub zero_factor : {c b : ℤ} → b ≢ pos 0 → (c *ℤ b ≡ pos 0) ↔ (c ≡ pos 0)
zero_factor {c} {b} nonzero = (λ e. cancel b c (pos 0) nonzero (comm b c ∙ e ∙ omega products), λ none. rw none (omega products))

-- if the denominator is a product whose second factor is not 0, the error is `ZeroDenominator` exactly if the first is
pub zero_exactly : {a b c : ℤ} {r : Result Ratio RatioError} → b ≢ pos 0 → AnswersFraction a (c *ℤ b) r → (r ≡ Err ZeroDenominator) ↔ (c ≡ pos 0)
zero_exactly nonzero h = (λ e. (zero_factor nonzero).0 (h.zero_denominator.0 e), λ none. h.zero_denominator.1 ((zero_factor nonzero).1 none))

-- if a call returns `Ok`, both parts of the exact result fit
pub ok_is_inside : {a b : ℤ} {x : Ratio} → AnswersFraction a b (Ok x) → ¬ (IsOutsideI64 a b)
ok_is_inside h far = let e = h.not_fitting.1 far in absurd cc

-- if a call returns an error and the denominator is not 0, a part of the exact result does not fit
pub err_is_outside : {a b : ℤ} (e : RatioError) → b ≢ pos 0 → AnswersFraction a b (Err e) → IsOutsideI64 a b
err_is_outside ZeroDenominator fraction h = absurd (fraction (h.zero_denominator.0 refl))
err_is_outside NotFitting fraction h = h.not_fitting.0 refl

-- a fraction whose parts fit gives no error
pub answer_is_ok : {a b : ℤ} {r : Result Ratio RatioError} → b ≢ pos 0 → ¬ (IsOutsideI64 a b) → AnswersFraction a b r → IsOk r
answer_is_ok {r = Ok x} fraction inside h = refl
answer_is_ok {r = Err e} fraction inside h = absurd (inside (err_is_outside e fraction h))

-- ---- a value after `unwrap`, `?` and `.ok()?`

-- What a result ensures of each `Ok` holds of the value that `unwrap` or `?` returns.
pub at_ok : {A E : Type 0} (P : A → Type 0) {r : Result A E} {x : A} → r ≡ Ok x → IfOk r P → P x
at_ok P e h = rw e at h

-- What a result ensures of each `Ok` holds of the value that `.ok()?` returns.
pub at_some : {A E : Type 0} (P : A → Type 0) (r : Result A E) {x : A} → Some x ≡ result_ok r → IfOk r P → P x
at_some P (Ok y) {x} e h = let same : y ≡ x = cc in subst P same h
at_some P (Err y) e h = absurd cc

-- The fraction that `.ok()?` returns is the exact result.
pub some_is_exact : {a b : ℤ} {x : Ratio} (r : Result Ratio RatioError) → Some x ≡ result_ok r → AnswersFraction a b r
    → IsExact a b (num_of x) (den_of x)
some_is_exact {a} {b} r e h = at_some (λ x. IsExact a b (num_of x) (den_of x)) r e h.exact

-- If `.ok()` is `None`, a part of the exact result does not fit, since the denominator is not 0.
pub none_is_outside : {a b : ℤ} (r : Result Ratio RatioError) → b ≢ pos 0 → None ≡ result_ok r → AnswersFraction a b r → IsOutsideI64 a b
none_is_outside (Ok x) nonzero e h = absurd cc
none_is_outside (Err error) nonzero e h = err_is_outside error nonzero h

-- So `.ok()` returns the exact result, or `None` if a part of it does not fit.
pub ok_is_exact : {a b : ℤ} (r : Result Ratio RatioError) {o : Option Ratio} → o ≡ result_ok r → b ≢ pos 0 → AnswersFraction a b r
    → MatchOption o (IsOutsideI64 a b) (λ x. IsExact a b (num_of x) (den_of x))
ok_is_exact (Ok x) is nonzero h = rw is h.exact
ok_is_exact (Err e) is nonzero h = rw is (err_is_outside e nonzero h)
