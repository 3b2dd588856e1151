use Rattle.integer_core.proofs.operators.quotient.Goals as goal

pub returns : goal.returns
returns g c =
    let is = g.met.T.Num.div_law _ _ _ c.div.ensures c.requires.exact in
    record { in_range = rw is c.requires.quotient_fits; value = is }
