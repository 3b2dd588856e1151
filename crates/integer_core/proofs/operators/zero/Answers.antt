use Rattle.integer_core.proofs.operators.zero.Goals as goal

pub returns : goal.returns
returns g c =
    let is = g.met.T.Zero.zero_law c.requires in
    record { in_range = rw (c.zero.ensures, is) (g.met.T.Zero.zero_fits_law c.requires); value = rw c.zero.ensures is }
