use Rattle.integer_core.proofs.fitting.difference.Goals as goal

pub returns : goal.returns
returns g c =
    let is = g.met.T.Num.sub_law _ _ _ c.sub.ensures c.requires.exact c.requires.difference_fits in
    record { in_range = rw is c.requires.difference_fits; value = is }
