use Rattle.intcalc_core.proofs.FractionLemmas.{product_outcome, product_refused}
use Rattle.intcalc_core.proofs.outcome.fractions.ratio_mul.Goals as goal

pub returns-in_err-x : goal.returns-in_err-x
returns-in_err-x g c = product_refused c.ranges.a c.ranges.b c.ranges.c c.ranges.d g.T.Number.fits c.in_err-x.ensures c.from_residual.result c.from_residual.ensures.1

pub returns : goal.returns
returns g c = product_outcome c.ranges.a c.ranges.b c.ranges.c c.ranges.d g.T.Number.fits c.in_ok-x.ensures c.checked_mul.result c.parts.ensures c.checked_mul.ensures.product
