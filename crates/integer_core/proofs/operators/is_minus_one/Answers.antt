use Rattle.integer_core.proofs.Common.{◌<ℤ◌, arith, is_less, linear, pos}
use Rattle.integer_core.proofs.operators.is_minus_one.Goals as goal

pub successor-requires-clause-sum_fits : goal.successor-requires-clause-sum_fits
successor-requires-clause-sum_fits g c =
    let exact = c.requires.exact in
    let negative : g.T.Number.value c.args.a <ℤ pos 0 =
    grind (arith, linear, is_less, g.met.T.Number.order_law, exact, c.zero.ensures.value, c.lt.ensures, c.if-lt.true) in
    g.T.Number.between_law _ _ _ exact c.requires.in_range (g.met.T.Zero.zero_fits_law exact) (omega (arith, linear)) (omega (arith, linear, negative))
