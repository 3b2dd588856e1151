use Rattle.theorems.proofs.Common.{◌≡◌, ℤ, MatchOption, Option, Some, None, ap, to_z-of_z, IsResidueClass, congruent_refl, residue_class_is_only}
use Rattle.theorems.proofs.residues.solution_class_is_unique.Goals as goal

same_class : (o : Option (ℤ × ℤ)) (Is : ℤ → Type 0) (A B C : ℤ × ℤ → Type 0) (first step : ℤ)
    → IsResidueClass Is first step
    → MatchOption o ((x : ℤ) → ¬ (Is x)) (λ s. A s × B s × IsResidueClass Is s.0 s.1 × C s)
    → o ≡ Some (first, step)
same_class None Is A B C first step h none = absurd (none first (h.no_other first (congruent_refl first)))
same_class (Some s) Is A B C first step h found = ap Some (residue_class_is_only Is first step h s found.2)

pub returns : goal.returns
returns c =
    let a = c.ranges.a in
    let b = c.ranges.b in
    let m = c.ranges.m in
    same_class c.solutions.result _ _ _ _ c.args.first c.args.step c.requires.class (simp to_z-of_z at c.solutions.ensures)
