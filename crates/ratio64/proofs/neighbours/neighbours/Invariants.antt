use Rattle.ratio64.proofs.Common.{◌+◌, AreNeighbours}
use Rattle.ratio64.proofs.neighbours.neighbours.Given as goal

abbrev pub invariant-iterations : goal.invariant-iterations
invariant-iterations l = AreNeighbours l.num l.den l.max l.below l.above

abbrev pub decreases-iterations : goal.decreases-iterations
decreases-iterations l = l.below.gap + l.above.gap
