use Rattle.num_integer.proofs.Common.{arith, ints, from_test}
use Rattle.num_integer.proofs.Multinomials.{IterationFits, HasFittingMultinomial, checked_last, iteration_fits, multinomial_next}
use Rattle.num_integer.proofs.checked.coefficients.multinomial.Goals as goal
use Rattle.num_integer.proofs.checked.coefficients.multinomial.Given.{Over}
use Rattle.num_integer.proofs.checked.coefficients.multinomial.Goals.{After-count-item}

-- each number of an iteration fits if the multinomial of all counts does
fitting : (g : Over) (c : After-count-item g) → HasFittingMultinomial g.T.Number.fits g.T.Number.value c.args.k.now
    → IterationFits g.T.Number.fits (g.T.Number.value c.loop-count.multinomial) (g.T.Number.value c.loop-count.total) (g.T.Number.value c.count-item.result)
fitting g c = iteration_fits c.loop-count.invariant c.loop-count-test.true c.count-item.is g.met.T.Integer.range_law c.requires.counts_in_range

pub returns-in_err-total : goal.returns-in_err-total
returns-in_err-total g c = rw c.from_residual.ensures (λ all_fit. c.in_err-total.ensures (fitting g (goal.at.returns-in_err-total g c).After-count-item all_fit).total)

pub returns-in_err-binomial : goal.returns-in_err-binomial
returns-in_err-binomial g c =
    let up = from_test c.is_negative.ensures c.if-is_negative.false in
    let none = rw c.in_ok-total.ensures.1.1 at c.in_err-binomial.ensures in
    rw c.from_residual-in_err-binomial.ensures (λ all_fit.
    none (omega (arith, ints, c.loop-count.invariant.shared.total_from_zero), up, (fitting g (goal.at.returns-in_err-binomial g c).After-count-item all_fit).ways))

pub returns-in_err-multinomial : goal.returns-in_err-multinomial
returns-in_err-multinomial g c = rw c.from_residual-in_err-multinomial.ensures (λ all_fit.
    c.in_err-multinomial.ensures (rw (c.in_ok-binomial.ensures.1.1, c.in_ok-total.ensures.1.1) (fitting g (goal.at.returns-in_err-multinomial g c).After-count-item all_fit).multinomial))

pub loop-count-preserved : goal.loop-count-preserved
loop-count-preserved g c =
    multinomial_next c.loop-count.invariant c.loop-count-test.true c.count-item.is (from_test c.is_negative.ensures c.if-is_negative.false)
    c.in_ok-total.ensures.1.0 c.in_ok-total.ensures.1.1 c.in_ok-binomial.ensures.1.1 c.in_ok-multinomial.ensures.1.0 c.in_ok-multinomial.ensures.1.1

pub returns : goal.returns
returns g c = checked_last c.loop-count.invariant c.loop-count-test.false
