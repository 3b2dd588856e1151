use Rattle.modular.proofs.exponentiation.ResiduesResidueForm.product.Goals as goal

pub product-requires : goal.product-requires
product-requires g c = c.requires.x_valid.1.may_multiply _ _ c.requires.x_valid.0 c.requires.y_valid.0

pub returns : goal.returns
returns g c =
    let residue = c.requires.x_valid.1.residue _ _ _ c.requires.x_valid.0 c.requires.y_valid.0 c.product.ensures in
    record { valid = (residue.below, c.requires.x_valid.1); congruent = residue.congruent }
