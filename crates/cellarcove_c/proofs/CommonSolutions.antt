-- Two congruences, and whether a number solves both.
use Rattle.cellarcove_c.proofs.Common.{◌≡◌, ℕ, ℤ, zero, suc, ◌∙◌, arith, inl, inr, subst, sym, MatchCommonSolution, IsResidueClass, CommonSolution, congruent_refl, IsLeastFrom, Refuses, IsBeyond, IsNever, StatusIsOneOf, common_solution_of, no_solution, not_fitting}

-- a status that is one of two is no third
pub no_third : {status one two three : ℕ} → StatusIsOneOf one two status → ¬ (one ≡ three) → ¬ (two ≡ three) → ¬ (status ≡ three)
no_third (inl same) first second third = first (sym same ∙ third)
no_third (inr same) first second third = second (sym same ∙ third)

-- a class has its first number
pub class_has : {Is : ℤ → Type 0} {first step : ℤ} → IsResidueClass Is first step → (x : ℤ) × Is x
class_has {first = first} h = (first, h.no_other first (congruent_refl first))

-- the value of a common solution is in range
pub value_in_range : {X : Type 0} (value : X → ℤ) (fits : ℤ → Type 0) (from : ℤ) (Solves : ℤ → Type 0) (zero_value : X) (status : ℕ) (solution : X) (found : CommonSolution X)
    → MatchCommonSolution found (IsNever Solves) (IsBeyond fits (IsLeastFrom from Solves)) (λ t. fits (value t) × IsLeastFrom from Solves (value t))
    → common_solution_of status solution ≡ found
    → Refuses (StatusIsOneOf not_fitting no_solution) zero_value status solution → fits (value zero_value) → fits (value solution)
value_in_range {X} value fits from Solves zero_value zero solution found own same refuses zero_fits =
    (subst (λ (s : CommonSolution X). MatchCommonSolution s (IsNever Solves) (IsBeyond fits (IsLeastFrom from Solves)) (λ t. fits (value t) × IsLeastFrom from Solves (value t))) (sym same) own).0
value_in_range value fits from Solves zero_value (suc status) solution found own same refuses zero_fits =
    subst (λ t. fits (value t)) (sym (refuses (λ none. absurd (omega (arith, none)))).0) zero_fits
