use Rattle.intcalc_core.proofs.FractionLemmas.{sum_outcome, sum_refused}
use Rattle.intcalc_core.proofs.outcome.fractions.ratio_add.Goals as goal

pub returns-in_err-x : goal.returns-in_err-x
returns-in_err-x g c = sum_refused c.ranges.a c.ranges.b c.ranges.c c.ranges.d g.T.Number.fits c.in_err-x.ensures c.from_residual.result c.from_residual.ensures.1

pub returns : goal.returns
returns g c = sum_outcome c.ranges.a c.ranges.b c.ranges.c c.ranges.d g.T.Number.fits c.in_ok-x.ensures c.checked_add.result c.parts.ensures c.checked_add.ensures.sum
