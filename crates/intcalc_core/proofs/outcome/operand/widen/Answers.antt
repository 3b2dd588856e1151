use Rattle.intcalc_core.proofs.Common.{w128, arith, fits_signed_from_abs, to_z-of_z, signed-wrap}
use Rattle.intcalc_core.proofs.OperandLemmas.{magnitude_below}
use Rattle.intcalc_core.proofs.outcome.operand.widen.Goals as goal

pub returns : goal.returns
returns g c = grind (arith, magnitude_below, w128, fits_signed_from_abs, signed-wrap, to_z-of_z, g.met.T.Integer.range_law, g.met.T.Operand.within_law, c.requires, g.T.Number.value, c.as_.ensures.value, g.met.T.Integer.exact_law)
