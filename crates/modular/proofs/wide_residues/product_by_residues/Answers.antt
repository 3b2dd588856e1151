use Rattle.modular.proofs.Common.{refl}
use Rattle.modular.proofs.Congruences.{residue_of_product}
use Rattle.modular.proofs.BelowModulus.{natural_residue}
use Rattle.modular.proofs.wide_residues.product_by_residues.Goals as goal

pub returns : goal.returns
returns c = residue_of_product (natural_residue c.args.x c.requires) (natural_residue c.args.y c.requires) refl c.product_of_residues.ensures
