use Rattle.modular.proofs.Common.{iff_false, refl}
use Rattle.modular.proofs.BelowModulus.{negation_of_other, own_residue}
use Rattle.modular.proofs.residues.negation_of_residue.Goals as goal

pub returns-then-is_zero-clause-residue : goal.returns-then-is_zero-clause-residue
returns-then-is_zero-clause-residue g c = own_residue c.requires.x_below (rw (c.is_zero.ensures.0 c.if-is_zero.true) refl)

pub returns-else-is_zero-clause-residue : goal.returns-else-is_zero-clause-residue
returns-else-is_zero-clause-residue g c = negation_of_other c.requires.x_below (iff_false c.is_zero.ensures c.if-is_zero.false) c.difference.ensures.value
