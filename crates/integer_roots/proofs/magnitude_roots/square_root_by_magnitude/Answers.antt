use Rattle.integer_roots.proofs.Common.{arith}
use Rattle.integer_roots.proofs.MagnitudeRoots.{root_fits}
use Rattle.integer_roots.proofs.magnitude_roots.square_root_by_magnitude.Goals as goal

pub from_magnitude-requires : goal.from_magnitude-requires
from_magnitude-requires g c =
    root_fits g.met.T.Integer.range_law c.requires.in_range (omega arith) c.magnitude.ensures.value c.square_root_counted-root.ensures.root
