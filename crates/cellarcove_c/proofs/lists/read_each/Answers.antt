use Rattle.cellarcove_c.proofs.Common.{FitsSigned, pos, w64, All, get_or, rules, subst, take_all, All-more}
use Rattle.cellarcove_c.proofs.lists.read_each.Goals as goal

pub loop-number-preserved : goal.loop-number-preserved
loop-number-preserved c =
    let fits : FitsSigned w64 (get_or c.args.numbers.now c.loop-number.number-index (pos 0)) = search rules in
    All-more (FitsSigned w64) c.args.numbers.now c.loop-number.number-index (pos 0) c.loop-number-test.true c.loop-number.invariant fits

pub returns : goal.returns
returns c = subst (All (FitsSigned w64)) (take_all c.loop-number.number-index c.args.numbers.now c.loop-number-test.false) c.loop-number.invariant
