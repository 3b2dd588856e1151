use Rattle.modular.proofs.BelowModulus.{natural_residue}
use Rattle.modular.proofs.wide_residues.product_of_wide.Goals as goal

pub returns-then-y-lt-U64_VALUES : goal.returns-then-y-lt-U64_VALUES
returns-then-y-lt-U64_VALUES c = natural_residue _ c.requires
