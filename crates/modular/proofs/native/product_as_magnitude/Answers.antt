use Rattle.modular.proofs.Common.{◌*ℤ◌, pos}
use Rattle.modular.proofs.BelowModulus.{residue_fits, residue_of_opposite}
use Rattle.modular.proofs.WideProducts.{residue_by_magnitudes}
use Rattle.modular.proofs.native.product_as_magnitude.Goals as goal

pub returns-then-a_negative-b_negative : goal.returns-then-a_negative-b_negative
returns-then-a_negative-b_negative g c =
    let a = c.parts-a_negative in
    let b = c.parts-b_negative in
    let opposite = residue_of_opposite {a = pos a.result.1 *ℤ pos b.result.1} c.product_of_wide-rest.ensures c.negation_of_residue.ensures.residue in
    let found = residue_by_magnitudes a.result.0 b.result.0 a.result.1 b.result.1 c.requires.positive a.ensures.negative b.ensures.negative a.ensures.magnitude b.ensures.magnitude
    c.parts-modulus.ensures.magnitude (rw c.if-a_negative-b_negative.true opposite) in
    record { in_range = residue_fits g.met.T.Integer.range_law c.requires.in_range.2 found; residue = found }

pub returns-else-a_negative-b_negative : goal.returns-else-a_negative-b_negative
returns-else-a_negative-b_negative g c =
    let a = c.parts-a_negative in
    let b = c.parts-b_negative in
    let found = residue_by_magnitudes a.result.0 b.result.0 a.result.1 b.result.1 c.requires.positive a.ensures.negative b.ensures.negative a.ensures.magnitude b.ensures.magnitude
    c.parts-modulus.ensures.magnitude (rw c.if-a_negative-b_negative.false c.product_of_wide-rest.ensures) in
    record { in_range = residue_fits g.met.T.Integer.range_law c.requires.in_range.2 found; residue = found }
