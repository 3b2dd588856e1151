use Rattle.modular.proofs.Common.{arith, ints}
use Rattle.modular.proofs.BelowModulus.{natural_residue}
use Rattle.modular.proofs.wide_residues.product_of_residues.Goals as goal

pub returns-then-m-le-U64_VALUES : goal.returns-then-m-le-U64_VALUES
returns-then-m-le-U64_VALUES c = natural_residue _ (omega (arith, ints))
