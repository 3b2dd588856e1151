use Rattle.applied.proofs.FallingFactorials.{next_factor_fits, next_product_fits, product_first, product_next}
use Rattle.applied.proofs.counting.product_above.Goals as goal

pub loop-high-init : goal.loop-high-init
loop-high-init g c = product_first c.requires.in_range.0 c.one-ways.ensures.in_range c.one-ways.ensures.value c.requires.ordered

pub successor-factor-requires-clause-sum_fits : goal.successor-factor-requires-clause-sum_fits
successor-factor-requires-clause-sum_fits g c =
    next_factor_fits c.loop-high.invariant c.requires.from_zero (c.is_below.ensures.0 c.loop-high-test.true) g.met.T.Integer.range_law c.requires.in_range.1

pub product_or-ways-requires-clause-product_fits : goal.product_or-ways-requires-clause-product_fits
product_or-ways-requires-clause-product_fits g c = rw c.successor-factor.ensures.value
    (next_product_fits c.loop-high.invariant c.requires.from_zero (c.is_below.ensures.0 c.loop-high-test.true) g.met.T.Integer.range_law c.requires.product_fits)

pub loop-high-preserved : goal.loop-high-preserved
loop-high-preserved g c =
    let next = c.successor-factor.ensures in
    let times = c.product_or-ways.ensures in
    product_next c.loop-high.invariant c.requires.from_zero (c.is_below.ensures.0 c.loop-high-test.true) next.value times.value next.in_range times.in_range
