use Rattle.modular.proofs.BelowModulus.{residue_fits}
use Rattle.modular.proofs.WideProducts.{power_of_magnitudes}
use Rattle.modular.proofs.native.power_as_magnitude.Goals as goal

pub returns : goal.returns
returns g c =
    let power = c.power_of_wide.ensures in
    let found = power_of_magnitudes c.parts.result.1 c.args.exponent c.requires.positive c.residue.ensures.residue c.parts-2.ensures.magnitude
    c.parts.ensures.magnitude power.residue in
    record { in_range = residue_fits g.met.T.Integer.range_law c.requires.in_range.1 found; residue = found; iterations = power.iterations }
