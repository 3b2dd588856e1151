-- What a call for several congruences returns.
use Rattle.cellarcove_c.proofs.Common.{◌≡◌, ◌≤◌, ℕ, ℤ, List, length, map, arith, inl, inr, refl, length-map, IsLeastFrom, MatchCommonSolution, SolvesEach, CommonSolution, Congruence, Never, Beyond, At, Refuses, HavePositiveModuli, IsBeyond, IsNever, IsNextOfSeveral, StatusIsOneOf, bad_modulus, common_solution_of, no_solution, not_fitting}
use Rattle.cellarcove_c.proofs.CommonSolutions.{no_third}

module _ {X C : Type 0} (value : X → ℤ) (fits : ℤ → Type 0) (from : ℤ) (congruence : C → Congruence X) (congruences : List C) (zero_value : X) (within : length congruences ≤ 64) where
  abbrev copies : List (Congruence X)
  copies = map congruence congruences

  few : length copies ≤ 64
  few = let long : length copies ≡ length congruences = length-map congruences congruence in omega (arith, long, within)

  pub bad_modulus_is : ¬ (HavePositiveModuli value copies) → IsNextOfSeveral value fits from copies zero_value bad_modulus zero_value
  bad_modulus_is bad = record {
    answer = λ _ positive. absurd (bad positive);
    too_many = (λ same. absurd (omega (arith, same)), λ many. absurd (omega (arith, many, few)));
    modulus_is_bad = (λ _. (few, bad), λ _. refl);
    refusal = λ _. (refl, inr (inl refl));
  }

  -- the status of a common solution is no other than these
  pub common_solution_is : (status : ℕ) (found : X) → HavePositiveModuli value copies
      → Refuses (StatusIsOneOf not_fitting no_solution) zero_value status found
      → MatchCommonSolution (common_solution_of status found) (IsNever (SolvesEach value copies)) (IsBeyond fits (IsLeastFrom from (SolvesEach value copies))) (λ t. IsLeastFrom from (SolvesEach value copies) (value t))
      → IsNextOfSeveral value fits from copies zero_value status found
  common_solution_is status found positive refuses own = record {
    answer = λ _ _. own;
    too_many = (λ same. absurd (no_third (refuses (λ zero. absurd (omega (arith, same, zero)))).1 (λ e. absurd (omega (arith, e))) (λ e. absurd (omega (arith, e))) same), λ many. absurd (omega (arith, many, few)));
    modulus_is_bad = (λ same. absurd (no_third (refuses (λ zero. absurd (omega (arith, same, zero)))).1 (λ e. absurd (omega (arith, e))) (λ e. absurd (omega (arith, e))) same), λ (_, bad). absurd (bad positive));
    refusal = λ refused. let (zeros, why) = refuses refused in (zeros, inr (inr why));
  }

-- what a solution has beside being in range
pub without_range : {X : Type 0} (value : X → ℤ) (fits : ℤ → Type 0) (from : ℤ) (Solves : ℤ → Type 0) (found : CommonSolution X)
    → MatchCommonSolution found (IsNever Solves) (IsBeyond fits (IsLeastFrom from Solves)) (λ t. fits (value t) × IsLeastFrom from Solves (value t))
    → MatchCommonSolution found (IsNever Solves) (IsBeyond fits (IsLeastFrom from Solves)) (λ t. IsLeastFrom from Solves (value t))
without_range value fits from Solves Never h = h
without_range value fits from Solves Beyond h = h
without_range value fits from Solves (At t) h = h.1
