use Rattle.integer_core.proofs.ForAnswers.{unsigned_abs, RowsFit}
use Rattle.integer_core.proofs.bezout.last_row.Given as goal

abbrev pub invariant-rows : goal.invariant-rows
invariant-rows g l =
    let n = g.T.Number.value in
    RowsFit g.T.Number.fits g.T.Integer.low g.T.Integer.high (n l.fn.a) (n l.fn.b)
    (record { remainder = n l.current.remainder; x = n l.current.x; y = n l.current.y })
    (record { remainder = n l.previous.remainder; x = n l.previous.x; y = n l.previous.y })
    l.iterations

abbrev pub decreases-rows : goal.decreases-rows
decreases-rows g l = unsigned_abs (g.T.Number.value l.current.remainder)
