use Rattle.integer_core.proofs.fitting.sum.Goals as goal

pub returns : goal.returns
returns g c =
    let is = g.met.T.Zero.add_law _ _ _ c.add.ensures c.requires.exact c.requires.sum_fits in
    record { in_range = rw is c.requires.sum_fits; value = is }
