use Rattle.num_integer.proofs.coefficients.multinomial.Given.{Over}
use Rattle.num_integer.proofs.Multinomials.{IterationFits, iteration_fits, multinomial_last, multinomial_next}
use Rattle.num_integer.proofs.coefficients.multinomial.Goals as goal
use Rattle.num_integer.proofs.coefficients.multinomial.Goals.{After-count-item}

-- each number of an iteration fits
fitting : (g : Over) (c : After-count-item g) → IterationFits g.T.Number.fits (g.T.Number.value c.loop-count.multinomial) (g.T.Number.value c.loop-count.total) (g.T.Number.value c.count-item.result)
fitting g c =
    iteration_fits c.loop-count.invariant c.loop-count-test.true c.count-item.is g.met.T.Integer.range_law c.requires.counts_in_range (c.requires.counts_from_zero, c.requires.multinomial_fits)

pub sum_or-total-requires-clause-sum_fits : goal.sum_or-total-requires-clause-sum_fits
sum_or-total-requires-clause-sum_fits g c = (fitting g (goal.at.sum_or-total-requires-clause-sum_fits g c).After-count-item).total

pub coefficient_counted-ways-requires-clause-coefficient_fits : goal.coefficient_counted-ways-requires-clause-coefficient_fits
coefficient_counted-ways-requires-clause-coefficient_fits g c =
    rw c.sum_or-total.ensures.value (fitting g (goal.at.coefficient_counted-ways-requires-clause-coefficient_fits g c).After-count-item).ways

pub product_or-multinomial-requires-clause-product_fits : goal.product_or-multinomial-requires-clause-product_fits
product_or-multinomial-requires-clause-product_fits g c =
    rw (c.coefficient_counted-ways.ensures.coefficient, c.sum_or-total.ensures.value) (fitting g (goal.at.product_or-multinomial-requires-clause-product_fits g c).After-count-item).multinomial

pub loop-count-preserved : goal.loop-count-preserved
loop-count-preserved g c =
    multinomial_next c.loop-count.invariant c.loop-count-test.true c.count-item.is (fitting g (goal.at.loop-count-preserved g c).After-count-item).from_zero
    c.sum_or-total.ensures.in_range c.sum_or-total.ensures.value c.coefficient_counted-ways.ensures.coefficient c.product_or-multinomial.ensures.in_range c.product_or-multinomial.ensures.value

pub returns-clause-multinomial : goal.returns-clause-multinomial
returns-clause-multinomial g c = multinomial_last c.loop-count.invariant c.loop-count-test.false
