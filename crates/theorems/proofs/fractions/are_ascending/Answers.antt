use Rattle.theorems.proofs.Common.{rules, order_is_total, den_of, num_of}
use Rattle.theorems.proofs.fractions.are_ascending.Goals as goal

pub returns-in-Less-Less-clause-ends : goal.returns-in-Less-Less-clause-ends
returns-in-Less-Less-clause-ends c =
    let order = order_is_total _ num_of den_of (λ x. x.reduced.positive) in
    λ _. order.trans c.args.x.now c.args.y.now c.args.z.now (search rules) (search rules)
