-- Calls modulo a number, with a status.
use Rattle.std.specs.Prelude.{◌≡◌, ◌⊎◌, ◌↔◌, ◌<◌, ◌≤◌, ◌<ℤ◌, ◌≤ℤ◌, ℕ, ℤ, pos, List, length, map, FitsSigned, MatchOption}
use Rattle.std.specs.Int.{FitsUnsignedBits, w64}
use Rattle.std.specs.List.{All}
use Rattle.num_integer.specs.Divisors.{IsLeastCommonMultiple}
use Rattle.num_integer.specs.Least.{IsLeastFrom}
use Rattle.num_integer.specs.Range.{EachFits}
use Rattle.modular.specs.CommonSolutions.{MatchCommonSolution}
use Rattle.modular.specs.Congruences.{IsResidueClass, SolvesBothCongruences, SolvesEach}
use Rattle.modular.specs.declared.congruent_numbers.Congruence.{Congruence}
use Rattle.cellarcove_c.specs.Answers.{Refuses}
use Rattle.cellarcove_c.specs.Statuses.{StatusIsOneOf, answer_of, bad_modulus, common_solution_of, no_solution, not_fitting, outside}
use Rattle.cellarcove_c.specs.declared.answers.I64Answer.{I64Answer}
use Rattle.cellarcove_c.specs.declared.answers.U64Answer.{U64Answer}
use Rattle.cellarcove_c.specs.declared.several_congruences.I64Congruence.{I64Congruence}
use Rattle.cellarcove_c.specs.declared.several_congruences.U64Congruence.{U64Congruence}

-- No number has the property.
-- Examples: 'is the inverse of 4 modulo 6'; not 'is the inverse of 3 modulo 7'.
abbrev pub IsNever : (ℤ → Type 0) → Type 0
IsNever Is = (z : ℤ) → ¬ (Is z)

-- Some number with the property does not fit.
-- Examples in i64: 'is 2^63'; not 'is 7'.
abbrev pub IsBeyond : (ℤ → Type 0) → (ℤ → Type 0) → Type 0
IsBeyond fits Is = (z : ℤ) × Is z × ¬ (fits z)

-- If the modulus is positive, the status is 0 and the value has the property, or the status is the reason and the fact `without`
-- holds. Otherwise the status is `bad_modulus`. The value is zeros if the status is not 0.
-- Examples: of 'is the inverse of 3' modulo 7: 0 and 5; modulo -7: 5 and 0; modulo 6 with the reason `no_solution` and the fact
-- that there is none: 4 and 0.
pub record AnswersModulo {A : Type 0} (modulus : ℤ) (reason : ℕ) (without : Type 0) (Is : A → Type 0) (zeros : A) (status : ℕ) (value : A) : Type 0 where
  pub answer : (pos 0 <ℤ modulus) → MatchOption (answer_of status value) without Is
  pub modulus_is_bad : (status ≡ bad_modulus) ↔ (modulus ≤ℤ pos 0)
  pub refusal : Refuses (StatusIsOneOf bad_modulus reason) zeros status value

-- The same of a result that is a signed number and the reason that there is no solution.
-- Examples: those of `AnswersModulo`.
abbrev pub I64Solution : ℤ → Type 0 → (ℤ → Type 0) → I64Answer → Type 0
I64Solution modulus without Is r = AnswersModulo modulus no_solution without Is (pos 0) r.status r.value

-- The same of a result that is a natural number and the reason that there is no solution.
-- Examples: those of `AnswersModulo`.
abbrev pub U64Solution : ℤ → Type 0 → (ℤ → Type 0) → U64Answer → Type 0
U64Solution modulus without Is r = AnswersModulo modulus no_solution without (λ n. Is (pos n)) 0 r.status r.value

-- The same of a result that is a signed number and the reason that the number with the property does not fit.
-- Examples: of 'is the smallest number from 10 on that is 1 modulo 4', modulo 4: 0 and 13.
abbrev pub I64Congruent : ℤ → (ℤ → Type 0) → I64Answer → Type 0
I64Congruent modulus Is r = AnswersModulo modulus not_fitting (IsBeyond (FitsSigned w64) Is) Is (pos 0) r.status r.value

-- The same of a result that is a natural number and the reason that the number with the property does not fit.
-- Examples: of 'is the smallest number from 10 on that is 1 modulo 4', modulo 4: 0 and 13.
abbrev pub U64Congruent : ℤ → (ℤ → Type 0) → U64Answer → Type 0
U64Congruent modulus Is r = AnswersModulo modulus not_fitting (IsBeyond (FitsUnsignedBits 64) Is) (λ n. Is (pos n)) 0 r.status r.value

-- The status says why two congruences have no result: a modulus is not positive, the result does not fit, or no number solves
-- both.
-- Examples: 5, 2 and 4; not 0.
abbrev pub IsReasonOfCongruences : ℕ → Type 0
IsReasonOfCongruences status = (status ≡ bad_modulus) ⊎ StatusIsOneOf not_fitting no_solution status

-- The status is 0 and the value is the first number that solves two congruences and the step to the next one. It is `no_solution` if
-- no number solves both, `not_fitting` if one does and the least common multiple of the moduli does not fit, and `bad_modulus` if a
-- modulus is not positive. The value is zeros if the status is not 0, and it fits.
-- Examples: of 1 modulo 4 and 3 modulo 6: 0, 9 and 12; of 1 modulo 4 and 2 modulo 6: 4, 0 and 0; modulo 0: 5, 0 and 0.
pub record IsClassOfBoth {X : Type 0} (value : X → ℤ) (fits : ℤ → Type 0) (a m b n : ℤ) (zeros : X × X) (status : ℕ) (class : X × X) : Type 0 where
  pub answer : (pos 0 <ℤ m) → (pos 0 <ℤ n) → EachFits fits (IsLeastCommonMultiple m n) → MatchOption (answer_of status class) (IsNever (SolvesBothCongruences a m b n))
      (λ (first, step). IsResidueClass (SolvesBothCongruences a m b n) (value first) (value step))
  pub modulus_is_bad : (status ≡ bad_modulus) ↔ ((m ≤ℤ pos 0) ⊎ (n ≤ℤ pos 0))
  pub step_is_beyond : (status ≡ not_fitting) ↔ ((pos 0 <ℤ m) × (pos 0 <ℤ n) × (¬ (EachFits fits (IsLeastCommonMultiple m n))) × ((x : ℤ) × SolvesBothCongruences a m b n x))
  pub is_never : (status ≡ no_solution) ↔ ((pos 0 <ℤ m) × (pos 0 <ℤ n) × IsNever (SolvesBothCongruences a m b n))
  pub refusal : Refuses IsReasonOfCongruences zeros status class
  pub in_range : fits (value class.0) × fits (value class.1)

-- ---- several congruences

-- The signed congruences that C passes, as congruences.
-- Examples: of the residue 1 and the modulus 4: 1 modulo 4.
abbrev pub i64_congruences : List I64Congruence → List (Congruence ℤ)
i64_congruences congruences = map (λ (c : I64Congruence). record { residue = c.residue; modulus = c.modulus }) congruences

-- The natural congruences that C passes, as congruences.
-- Examples: of the residue 1 and the modulus 4: 1 modulo 4.
abbrev pub u64_congruences : List U64Congruence → List (Congruence ℕ)
u64_congruences congruences = map (λ (c : U64Congruence). record { residue = c.residue; modulus = c.modulus }) congruences

-- Each modulus is positive.
-- Examples: 1 modulo 4 and 3 modulo 6; not 1 modulo 0.
abbrev pub HavePositiveModuli : {X : Type 0} → (X → ℤ) → List (Congruence X) → Type 0
HavePositiveModuli value congruences = All (λ c. pos 0 <ℤ value c.modulus) congruences

-- The status says why several congruences have no result: that of two, or there are too many.
-- Examples: 5, 2, 4 and 3; not 0.
abbrev pub IsReasonOfSeveral : ℕ → Type 0
IsReasonOfSeveral status = (status ≡ outside) ⊎ IsReasonOfCongruences status

-- If there are at most 64 congruences and each modulus is positive, the status is 0 and the value is the smallest number from `from`
-- on that solves each, `not_fitting` if that number does not fit, or `no_solution` if no number solves each. It is `outside` if there
-- are more congruences, and else `bad_modulus` if a modulus is not positive. The value is zero if the status is not 0.
-- Examples: from 10, of 1 modulo 4, 3 modulo 6 and 0 modulo 7: 0 and 21; of 1 modulo 4 and 2 modulo 6: 4 and 0; of 1 modulo 0: 5 and 0.
pub record IsNextOfSeveral {X : Type 0} (value : X → ℤ) (fits : ℤ → Type 0) (from : ℤ) (congruences : List (Congruence X)) (zero_value : X) (status : ℕ) (found : X) : Type 0 where
  pub answer : (length congruences ≤ 64) → HavePositiveModuli value congruences → MatchCommonSolution (common_solution_of status found) (IsNever (SolvesEach value congruences))
      (IsBeyond fits (IsLeastFrom from (SolvesEach value congruences))) (λ t. IsLeastFrom from (SolvesEach value congruences) (value t))
  pub too_many : (status ≡ outside) ↔ (64 < length congruences)
  pub modulus_is_bad : (status ≡ bad_modulus) ↔ ((length congruences ≤ 64) × (¬ (HavePositiveModuli value congruences)))
  pub refusal : Refuses IsReasonOfSeveral zero_value status found
