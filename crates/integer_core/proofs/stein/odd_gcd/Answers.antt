use Rattle.integer_core.proofs.ForAnswers.{arith, turning_falls, loop_begins, loop_counts, loop_ends, loop_goes_on}
use Rattle.integer_core.proofs.stein.odd_gcd.Goals as goal

pub iterations-init : goal.iterations-init
iterations-init c = loop_begins (c.ranges.a.fits, c.ranges.b.fits) c.requires.a_odd c.requires.b_odd

pub overflow_add-iterations : goal.overflow_add-iterations
overflow_add-iterations c = omega (arith, loop_counts c.iterations.invariant (omega (arith, c.ranges.a.fits)) (omega (arith, c.ranges.b.fits)))

pub iterations-smaller : goal.iterations-smaller
iterations-smaller c = turning_falls c.iterations.invariant.kept c.next_pair.ensures.iteration

pub iterations-preserved : goal.iterations-preserved
iterations-preserved c = loop_goes_on c.iterations.invariant c.next_pair.ensures.in_range c.next_pair.ensures.iteration

pub returns : goal.returns
returns c = loop_ends c.iterations.invariant c.iterations-test.false
