use Rattle.modular.proofs.ForCallers.{sum_is_natural}
use Rattle.callers.proofs.residues.ring_index.Goals as goal

pub returns : goal.returns
returns c = sum_is_natural c.args.index c.args.places c.requires c.sum_modulo.ensures.residue
