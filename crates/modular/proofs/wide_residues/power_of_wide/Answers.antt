use Rattle.modular.proofs.Common.{arith, ints}
use Rattle.modular.proofs.BelowModulus.{natural_residue}
use Rattle.modular.proofs.wide_residues.power_of_wide.Goals as goal

pub power_counted-requires-clause-one : goal.power_counted-requires-clause-one
power_counted-requires-clause-one c = (natural_residue 1 (omega (arith, ints))).congruent
