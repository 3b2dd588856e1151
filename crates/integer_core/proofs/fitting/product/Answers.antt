use Rattle.integer_core.proofs.fitting.product.Goals as goal

pub returns : goal.returns
returns g c =
    let is = g.met.T.One.mul_law _ _ _ c.mul.ensures c.requires.exact c.requires.product_fits in
    record { in_range = rw is c.requires.product_fits; value = is }
