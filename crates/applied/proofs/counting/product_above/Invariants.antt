use Rattle.applied.proofs.Common.{◌-◌, unsigned_abs}
use Rattle.applied.proofs.FallingFactorials.{IsProductSoFar}
use Rattle.applied.proofs.counting.product_above.Given as goal

abbrev pub invariant-loop-high : goal.invariant-loop-high
invariant-loop-high g l =
    IsProductSoFar g.T.Number.fits (g.T.Number.value l.fn.low) (g.T.Number.value l.factor) (g.T.Number.value l.high) (g.T.Number.value l.ways)

abbrev pub decreases-loop-high : goal.decreases-loop-high
decreases-loop-high g l = unsigned_abs (g.T.Number.value l.high) - unsigned_abs (g.T.Number.value l.factor)
