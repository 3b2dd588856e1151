use Rattle.integer_core.proofs.ForAnswers.{arith, inl, inr, cases_eq, turning_falls, iterations_fit, loop_begins, loop_counts, loop_ends, loop_goes_on, loop_handed_on}
use Rattle.integer_core.proofs.stein.narrowing_gcd.Goals as goal

pub iterations-init : goal.iterations-init
iterations-init g c = loop_begins c.requires.in_range c.requires.a_odd c.requires.b_odd

pub overflow_add-iterations : goal.overflow_add-iterations
overflow_add-iterations g c = omega (arith, loop_counts c.iterations.invariant (g.met.M.Magnitude.bits_law _ c.requires.in_range.0) (g.met.M.Magnitude.bits_law _ c.requires.in_range.1))

pub iterations-smaller : goal.iterations-smaller
iterations-smaller g c = turning_falls c.iterations.invariant.kept c.next_pair.ensures.iteration

pub iterations-preserved : goal.iterations-preserved
iterations-preserved g c = loop_goes_on c.iterations.invariant c.next_pair.ensures.in_range c.next_pair.ensures.iteration

pub overflow_add-result : goal.overflow_add-result
overflow_add-result g c =
    let pair = c.in-Some.ensures in
    let all = loop_handed_on c.iterations.invariant (rw (pair.0, pair.1) at c.odd_gcd-gcd.ensures) in
    omega (arith, iterations_fit _ all.few (g.met.M.Magnitude.bits_law _ c.requires.in_range.0) (g.met.M.Magnitude.bits_law _ c.requires.in_range.1))

pub returns-in-Some-clause-odd_gcd : goal.returns-in-Some-clause-odd_gcd
returns-in-Some-clause-odd_gcd g c =
    let pair = c.in-Some.ensures in
    rw c.from_64_bits.ensures.value (loop_handed_on c.iterations.invariant {g = c.odd_gcd-gcd.result.0} {r = c.odd_gcd-gcd.result.1} (rw (pair.0, pair.1) at c.odd_gcd-gcd.ensures))

pub returns-in-None-clause-odd_gcd : goal.returns-in-None-clause-odd_gcd
returns-in-None-clause-odd_gcd g c = loop_ends c.iterations.invariant (elim (cases_eq _ _) [
  | inl same ↦ same
  | inr differ ↦ cc (c.iterations-test.ensures.1 (differ, c.in-None.ensures))
])
