use Rattle.integer_core.proofs.ForAnswers.{◌+◌, ◌^◌, ◌<◌, OddLoop}
use Rattle.integer_core.proofs.stein.odd_gcd.Given as goal

abbrev pub invariant-iterations : goal.invariant-iterations
invariant-iterations l = OddLoop ((l.m < 2 ^ 64) × (l.n < 2 ^ 64)) l.fn.a l.fn.b l.m l.n l.iterations

abbrev pub decreases-iterations : goal.decreases-iterations
decreases-iterations l = l.m + l.n
