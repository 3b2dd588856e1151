use Rattle.modular.proofs.BelowModulus.{below_fits}
use Rattle.modular.proofs.Congruences.{congruent_trans}
use Rattle.modular.proofs.PowerIterations.{congruent_power}
use Rattle.modular.proofs.products.Modular.power_modulo_counted.Goals as goal

pub returns-clause-in_range : goal.returns-clause-in_range
returns-clause-in_range g c = below_fits g.met.Self.Integer.range_law c.requires.in_range.1 c.power_counted.ensures.valid.0

pub returns-clause-residue : goal.returns-clause-residue
returns-clause-residue g c =
    let power = congruent_power c.args.exponent c.residue-2.ensures.residue.congruent in
    record { below = c.power_counted.ensures.valid.0; congruent = congruent_trans power c.power_counted.ensures.power }
