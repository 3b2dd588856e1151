use Rattle.applied.proofs.Common.{unsigned_abs}
use Rattle.applied.proofs.PowersAndRoots.{IsDivided}
use Rattle.applied.proofs.powers.ilog.Given as goal

abbrev pub invariant-loop-base : goal.invariant-loop-base
invariant-loop-base g l = record {
  in_range : g.T.Number.fits (g.T.Number.value l.rest);
  divided : IsDivided (g.T.Number.value l.base) (g.T.Number.value l.fn.number) (g.T.Number.value l.rest) l.degree;
}

abbrev pub decreases-loop-base : goal.decreases-loop-base
decreases-loop-base g l = unsigned_abs (g.T.Number.value l.rest)
