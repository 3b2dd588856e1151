use Rattle.integer_core.proofs.ForAnswers.{◌+◌, unsigned_abs, OddLoop}
use Rattle.integer_core.proofs.stein.narrowing_gcd.Given as goal

abbrev pub invariant-iterations : goal.invariant-iterations
invariant-iterations g l =
    let fits = g.M.Number.fits in
    let value = g.M.Number.value in
    OddLoop (fits (value l.m) × fits (value l.n)) (unsigned_abs (value l.fn.a)) (unsigned_abs (value l.fn.b))
    (unsigned_abs (value l.m)) (unsigned_abs (value l.n)) l.iterations

abbrev pub decreases-iterations : goal.decreases-iterations
decreases-iterations g l = unsigned_abs (g.M.Number.value l.m) + unsigned_abs (g.M.Number.value l.n)
