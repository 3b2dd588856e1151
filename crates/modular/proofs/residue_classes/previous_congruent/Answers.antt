use Rattle.modular.proofs.NextCongruent.{found_or_beyond, near_previous, previous_congruent_is}
use Rattle.modular.proofs.residue_classes.previous_congruent.Goals as goal

pub returns-clause-previous : goal.returns-clause-previous
returns-clause-previous g c = found_or_beyond _ _ _ _ (previous_congruent_is c.difference_modulo.ensures.residue) c.difference.ensures

pub returns-clause-near : goal.returns-clause-near
returns-clause-near g c = near_previous g.T.Number.fits g.T.Number.value _ _ c.difference_modulo.ensures.residue.below c.difference.ensures
