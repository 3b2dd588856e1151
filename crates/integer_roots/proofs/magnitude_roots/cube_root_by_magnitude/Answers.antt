use Rattle.integer_roots.proofs.Common.{arith}
use Rattle.integer_roots.proofs.MagnitudeRoots.{negation_fits, root_fits}
use Rattle.integer_roots.proofs.magnitude_roots.cube_root_by_magnitude.Goals as goal

pub with_magnitude-requires-clause-from_zero_fits : goal.with_magnitude-requires-clause-from_zero_fits
with_magnitude-requires-clause-from_zero_fits g c up =
    root_fits g.met.T.Integer.range_law c.requires.in_range (omega arith) c.magnitude.ensures.value c.cube_root.ensures.root

pub with_magnitude-requires-clause-below_zero_fits : goal.with_magnitude-requires-clause-below_zero_fits
with_magnitude-requires-clause-below_zero_fits g c below =
    let range = g.met.T.Integer.range_law in
    let root = c.cube_root.ensures.root in
    negation_fits range c.requires.in_range below root.from_zero
    (root_fits range c.requires.in_range (omega arith) c.magnitude.ensures.value root)
