use Rattle.intcalc_core.proofs.Common.{[], append-nil, arith, rules, decimal, drop_all, decimal_digit, decimal_step_wide}
use Rattle.intcalc_core.proofs.DecimalLemmas.{one_digit_more, room}
use Rattle.intcalc_core.proofs.decimal.write_digits.Goals as goal

pub loop-rest-init : goal.loop-rest-init
loop-rest-init c = record {
  size = search rules;
  within = search rules;
  digits = rw (drop_all 39 c.args.text.now (omega arith), append-nil);
}

pub overflow_sub-start : goal.overflow_sub-start
overflow_sub-start c = grind (arith, room, c.loop-rest.invariant)

pub loop-rest-preserved : goal.loop-rest-preserved
loop-rest-preserved c = search (rules, decimal_step_wide, one_digit_more, decimal, room, c.loop-rest.invariant, c.loop-rest.rest, c.loop-rest-test.true, c.loop-rest.text, c.loop-rest.start)

pub overflow_sub-start-2 : goal.overflow_sub-start-2
overflow_sub-start-2 c = grind (arith, room, c.loop-rest.invariant)

pub returns-clause-digits : goal.returns-clause-digits
returns-clause-digits c =
    let i = c.loop-rest.invariant in
    let all = rw (decimal_digit c.loop-rest.rest c.loop-rest-test.false) at i.digits in
    one_digit_more [] _ c.loop-rest.text c.loop-rest.start c.digit-2.result (room _ c.args.n _ _ i.size (omega arith) (omega arith) i.digits) (omega arith) (cc all)
