use Rattle.intcalc_core.proofs.Common.{◌++◌, take, rules}
use Rattle.intcalc_core.proofs.SinkLemmas.{Appends-trans, part}
use Rattle.intcalc_core.proofs.sink.put_all.Goals as goal

pub loop-rest-preserved : goal.loop-rest-preserved
loop-rest-preserved g c =
    let i = c.loop-rest.invariant in
    let rest = c.loop-rest.rest.now in
    (i.0 ++ take c.in_ok-n.n rest, (Appends-trans _ _ _ _ _ i.1.0 (search rules), part i.0 rest _ c.in_ok-n.n c.in_ok-n.ensures.bound i.1.1, λ _. c.in_ok-n.ensures.unfinished))
