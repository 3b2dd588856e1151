use Rattle.integer_roots.proofs.Common.{arith}
use Rattle.integer_roots.proofs.MagnitudeRoots.{first_root, negation_fits, root_fits}
use Rattle.integer_roots.proofs.magnitude_roots.root_by_magnitude.Goals as goal

pub returns-in-1-clause-root : goal.returns-in-1-clause-root
returns-in-1-clause-root g c = rw c.in-1.is (first_root _)

pub with_magnitude-requires-clause-from_zero_fits : goal.with_magnitude-requires-clause-from_zero_fits
with_magnitude-requires-clause-from_zero_fits g c up =
    root_fits g.met.T.Integer.range_law c.requires.in_range (omega arith) c.magnitude.ensures.value
    c.root_of_degree.ensures.root

pub with_magnitude-requires-clause-below_zero_fits : goal.with_magnitude-requires-clause-below_zero_fits
with_magnitude-requires-clause-below_zero_fits g c below =
    let range = g.met.T.Integer.range_law in
    let root = c.root_of_degree.ensures.root in
    negation_fits range c.requires.in_range below root.from_zero
    (root_fits range c.requires.in_range (omega arith) c.magnitude.ensures.value root)
