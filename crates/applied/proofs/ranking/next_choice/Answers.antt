use Rattle.applied.proofs.Common.{refl}
use Rattle.applied.proofs.Choices.{next_choice_is, raised_is}
use Rattle.applied.proofs.ranking.next_choice.Goals as goal

pub returns-in-Some-clause-next : goal.returns-in-Some-clause-next
returns-in-Some-clause-next c =
    let zeroed = c.number_from_zero.ensures in
    λ _. next_choice_is c.requires.choice c.in-Some.ensures (raised_is c.in-Some.ensures.within zeroed.length zeroed.before zeroed.after)

pub returns-in-Some-clause-choice : goal.returns-in-Some-clause-choice
returns-in-Some-clause-choice c = (returns-in-Some-clause-next c refl).choice
