use Rattle.modular.proofs.Congruences.{zero_difference}
use Rattle.modular.proofs.residues.are_congruent.Goals as goal

pub returns : goal.returns
returns g c = zero_difference c.difference_modulo.ensures.residue c.is_zero.ensures
