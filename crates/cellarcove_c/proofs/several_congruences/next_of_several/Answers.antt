use Rattle.cellarcove_c.proofs.Common.{map, rules, iff_false, SolvesEach}
use Rattle.cellarcove_c.proofs.CommonSolutions.{value_in_range}
use Rattle.cellarcove_c.proofs.SeveralCongruences.{bad_modulus_is, common_solution_is, without_range}
use Rattle.cellarcove_c.proofs.several_congruences.next_of_several.Goals as goal

pub returns-then-not-copy-clause-next : goal.returns-then-not-copy-clause-next
returns-then-not-copy-clause-next g c =
    let bad = iff_false c.copy.ensures.positive c.if-not-copy.true in
    bad_modulus_is g.T.Number.value g.T.Number.fits _ g.C.ForeignCongruence.congruence_of c.args.congruences.now c.args.zero (search rules) bad

pub returns : goal.returns
returns g c =
    let value = g.T.Number.value in
    let fits = g.T.Number.fits in
    let status = c.common_with_status in
    let positive = c.copy.ensures.positive.0 c.if-not-copy.false in
    let Solves = SolvesEach value (map g.C.ForeignCongruence.congruence_of c.args.congruences.now) in
    let own = rw (c.copy.ensures.copies c.if-not-copy.false) at c.next_common_solution_of.ensures in
    record {
      next =
          common_solution_is value fits _ g.C.ForeignCongruence.congruence_of c.args.congruences.now c.args.zero (search rules) status.result.0 status.result.1 positive status.ensures.refusal
          (rw status.ensures.answer (without_range value fits (value c.args.from) Solves c.next_common_solution_of.result own));
      in_range = value_in_range value fits (value c.args.from) Solves c.args.zero status.result.0 status.result.1 c.next_common_solution_of.result own status.ensures.answer status.ensures.refusal c.requires.in_range.1;
    }
