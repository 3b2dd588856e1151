use Rattle.integer_core.proofs.operators.one.Goals as goal

pub returns : goal.returns
returns g c =
    let is = g.met.T.One.one_law c.requires in
    record { in_range = rw (c.one.ensures, is) (g.met.T.One.one_fits_law c.requires); value = rw c.one.ensures is }
