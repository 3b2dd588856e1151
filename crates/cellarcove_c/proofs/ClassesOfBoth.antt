-- What a call for the class of two congruences returns.
use Rattle.cellarcove_c.proofs.Common.{◌≡◌, ◌⊎◌, ◌↔◌, ◌<ℤ◌, ◌≤ℤ◌, ℕ, ℤ, pos, zero, suc, MatchOption, Option, ap, arith, inr, refl, subst, sym, ints, Congruence, IsResidueClass, SolvesBothCongruences, IsLeastCommonMultiple, EachFits, Refuses, IsClassOfBoth, IsNever, StatusIsOneOf, StatusIs, answer_of, no_solution, not_fitting}
use Rattle.cellarcove_c.proofs.CommonSolutions.{class_has, no_third}

-- of two positive moduli none is bad
not_bad : {m n : ℤ} → pos 0 <ℤ m → pos 0 <ℤ n → ¬ ((m ≤ℤ pos 0) ⊎ (n ≤ℤ pos 0))
not_bad m_up n_up bad = grind (arith, ints)

module _ {X : Type 0} (value : X → ℤ) (fits : ℤ → Type 0) (a m b n : ℤ) (zeros : Congruence X) (small : fits (value zeros.residue) × fits (value zeros.modulus)) where
  abbrev Both : ℤ → Type 0
  Both = SolvesBothCongruences a m b n

  module _ (good : (pos 0 <ℤ m) × (pos 0 <ℤ n)) where
    -- where the least common multiple fits
    pub class_is : EachFits fits (IsLeastCommonMultiple m n) → (status : ℕ) (class : Congruence X) (o : Option (Congruence X))
        → MatchOption o (IsNever Both) (λ s. fits (value s.residue) × fits (value s.modulus) × IsResidueClass Both (value s.residue) (value s.modulus)) → answer_of status class ≡ o
        → Refuses (StatusIs no_solution) zeros status class
        → IsClassOfBoth value fits a m b n (zeros.residue, zeros.modulus) status (class.residue, class.modulus)
    class_is lcm_fits zero class o own same refuses =
        let found = subst (λ (p : Option (Congruence X)). MatchOption p (IsNever Both) (λ s. fits (value s.residue) × fits (value s.modulus) × IsResidueClass Both (value s.residue) (value s.modulus))) (sym same) own in
        let (x, solves) = class_has found.2 in
        record {
          answer = λ _ _ _. found.2;
          modulus_is_bad = (λ e. absurd (omega (arith, e)), λ bad. absurd (not_bad good.0 good.1 bad));
          step_is_beyond = (λ e. absurd (omega (arith, e)), λ (_, _, beyond, _). absurd (beyond lcm_fits));
          is_never = (λ e. absurd (omega (arith, e)), λ (_, _, none). absurd (none x solves));
          refusal = λ other. absurd (other refl);
          in_range = (found.0, found.1);
        }
    class_is lcm_fits (suc status) class o own same refuses =
        let none = subst (λ (p : Option (Congruence X)). MatchOption p (IsNever Both) (λ s. fits (value s.residue) × fits (value s.modulus) × IsResidueClass Both (value s.residue) (value s.modulus))) (sym same) own in
        let (is_zeros, is) = refuses (λ e. absurd (omega (arith, e))) in
        record {
          answer = λ _ _ _. none;
          modulus_is_bad = (λ e. absurd (omega (arith, e, is)), λ bad. absurd (not_bad good.0 good.1 bad));
          step_is_beyond = (λ e. absurd (omega (arith, e, is)), λ (_, _, beyond, _). absurd (beyond lcm_fits));
          is_never = (λ _. (good.0, good.1, none), λ _. is);
          refusal = λ _. (ap (λ (s : Congruence X). (s.residue, s.modulus)) is_zeros, inr (inr is));
          in_range = subst (λ (s : Congruence X). fits (value s.residue) × fits (value s.modulus)) (sym is_zeros) small;
        }

    -- where it does not
    pub reason_is : ¬ (EachFits fits (IsLeastCommonMultiple m n)) → (status : ℕ)
        → (status ≡ not_fitting) ↔ ((x : ℤ) × Both x) → (status ≡ no_solution) ↔ IsNever Both
        → StatusIsOneOf not_fitting no_solution status
        → IsClassOfBoth value fits a m b n (zeros.residue, zeros.modulus) status (zeros.residue, zeros.modulus)
    reason_is beyond status fitting solved either = record {
      answer = λ _ _ lcm_fits. absurd (beyond lcm_fits);
      modulus_is_bad = (λ same. absurd (no_third either (λ e. absurd (omega (arith, e))) (λ e. absurd (omega (arith, e))) same), λ bad. absurd (not_bad good.0 good.1 bad));
      step_is_beyond = (λ same. (good.0, good.1, beyond, fitting.0 same), λ (_, _, _, solution). fitting.1 solution);
      is_never = (λ same. (good.0, good.1, solved.0 same), λ (_, _, none). solved.1 none);
      refusal = λ _. (refl, inr either);
      in_range = small;
    }
