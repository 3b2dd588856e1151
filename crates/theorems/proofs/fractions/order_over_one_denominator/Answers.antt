use Rattle.theorems.proofs.Common.{◌∙◌, order_over_one_denominator}
use Rattle.theorems.proofs.fractions.order_over_one_denominator.Goals as goal

pub returns : goal.returns
returns c =
    let x = c.args.x.now in
    let y = c.args.y.now in
    c.cmp.ensures ∙ rw c.requires.denominator (order_over_one_denominator x.num y.num y.den y.reduced.positive c.requires.numerators)
