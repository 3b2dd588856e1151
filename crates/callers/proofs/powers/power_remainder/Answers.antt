use Rattle.modular.proofs.ForCallers.{power_is_natural}
use Rattle.callers.proofs.powers.power_remainder.Goals as goal

pub returns : goal.returns
returns c = power_is_natural c.args.n c.args.m c.args.e c.power_modulo.result c.requires c.power_modulo.ensures.residue
