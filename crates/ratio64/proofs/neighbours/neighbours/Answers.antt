use Rattle.ratio64.proofs.NeighbourIterations.{above_closer, below_closer}
use Rattle.ratio64.proofs.neighbours.neighbours.Goals as goal

pub iterations-preserved : goal.iterations-preserved
iterations-preserved c = below_closer c.iterations.invariant c.closer-below.ensures

pub iterations-preserved-then-below-above : goal.iterations-preserved-then-below-above
iterations-preserved-then-below-above c = above_closer c.iterations.invariant c.closer-above.ensures
