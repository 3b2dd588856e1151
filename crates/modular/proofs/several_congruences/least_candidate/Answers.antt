use Rattle.modular.proofs.Common.{iff_false}
use Rattle.modular.proofs.Agreements.{after_candidate, candidate_is_least, candidate_passed, nearer_to_last, none_after_last, none_at_end}
use Rattle.modular.proofs.several_congruences.least_candidate.Goals as goal

pub returns-then-solves_each : goal.returns-then-solves_each
returns-then-solves_each g c =
    let next = c.in-At.ensures in
    let kept = c.candidates.invariant in
    (next.0, candidate_is_least c.requires.candidates kept.passed kept.from_there next.1 (c.solves_each.ensures.0 c.if-solves_each.true))

pub returns-in_err-next : goal.returns-in_err-next
returns-in_err-next g c =
    let next = c.in-At.ensures in
    rw c.from_residual.ensures
    (none_after_last c.requires.candidates c.candidates.invariant.passed g.met.T.Integer.range_law next.0 next.1 (iff_false c.solves_each.ensures c.if-solves_each.false) c.in_err-next.ensures)

pub candidates-smaller : goal.candidates-smaller
candidates-smaller g c = nearer_to_last g.met.T.Integer.range_law c.in_ok-next.ensures.1.0 c.in_ok-next.ensures.1.1 c.in-At.ensures.1.from_there

pub candidates-preserved : goal.candidates-preserved
candidates-preserved g c =
    let next = c.in-At.ensures in
    let kept = c.candidates.invariant in
    let more = c.in_ok-next.ensures.1 in
    record {
      next_in_range = more.0;
      from_there = rw more.1 (after_candidate kept.from_there next.1.from_there);
      passed = rw more.1 (candidate_passed c.requires.candidates kept.passed next.1 (iff_false c.solves_each.ensures c.if-solves_each.false));
    }

pub returns : goal.returns
returns g c =
    let kept = c.candidates.invariant in
    none_at_end c.requires.candidates kept.passed g.T.Number.value c.next_common_solution.result g.met.T.Integer.range_law kept.next_in_range c.in_default.not-At c.next_common_solution.ensures
