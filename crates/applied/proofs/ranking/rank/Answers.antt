use Rattle.applied.proofs.Common.{◌∙◌, arith}
use Rattle.applied.proofs.Choices.{before_exactly, rank_of_all}
use Rattle.applied.proofs.ranking.rank.Goals as goal

pub returns-clause-order : goal.returns-clause-order
returns-clause-order c = λ other is size.
    let whole = c.loop-i.invariant ∙ rank_of_all c.args.choice.now c.loop-i.i (omega arith) in
    rw whole (before_exactly is c.requires.choice size)
