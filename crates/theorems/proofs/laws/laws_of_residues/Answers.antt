use Rattle.modular.proofs.Common.{pos, ℤ, ◌<ℤ◌, IsGreatestCommonDivisor, IsInverse, IsResidue}
use Rattle.modular.proofs.Congruences as congruence
use Rattle.modular.proofs.ForCallers as caller
use Rattle.modular.proofs.Laws as law
use Rattle.theorems.proofs.ResidueExistence as existence
use Rattle.theorems.proofs.laws.laws_of_residues.Goals as goal

ruleset of_residues = (law.residue_is_only, law.inverse_is_only, law.exponents_add, law.quotient_is_only)

-- a residue exists, an inverse where the gcd is 1, and the others
residue_exists : (m x : ℤ) → pos 0 <ℤ m → (r : ℤ) × IsResidue m x r
residue_exists m x up = congruence.residue_exists x up

inverse_exists : (a m : ℤ) → pos 0 <ℤ m → IsGreatestCommonDivisor a m (pos 1) → (x : ℤ) × IsInverse a m x
inverse_exists a m up coprime = caller.inverse_exists up coprime

ruleset of_existence = (
  residue_exists,
  inverse_exists,
  existence.quotient_exists,
  existence.reduced_modulus_exists,
  existence.residue_class_exists,
  existence.next_congruent_exists,
  existence.previous_congruent_exists,
  existence.count_of_congruent_exists,
  existence.next_common_solution_exists,
  existence.next_solution_of_each_exists,
)

ruleset of_classes = (
  law.residue_class_is_only,
  law.reduced_modulus_is_only,
  law.next_congruent_is_only,
  law.previous_congruent_is_only,
  law.count_of_congruent_is_only,
  law.next_common_solution_is_only,
  law.next_solution_of_each_is_only,
)

pub returns : goal.returns
returns g c = search (of_residues, of_existence, of_classes)
