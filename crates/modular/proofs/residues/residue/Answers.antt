use Rattle.modular.proofs.Common.{refl}
use Rattle.modular.proofs.BelowModulus.{own_residue}
use Rattle.modular.proofs.Congruences.{remainder_is_residue}
use Rattle.modular.proofs.residues.residue.Goals as goal

pub returns-then-is_residue-clause-residue : goal.returns-then-is_residue-clause-residue
returns-then-is_residue-clause-residue g c = own_residue (c.is_residue.ensures.0 c.if-is_residue.true) refl

pub returns-else-is_residue-clause-residue : goal.returns-else-is_residue-clause-residue
returns-else-is_residue-clause-residue g c = remainder_is_residue c.requires.positive c.mod_floor.ensures.floored
