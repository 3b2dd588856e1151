use Rattle.applied.proofs.Common.{arith, refl, IsChoice}
use Rattle.applied.proofs.Choices.{rank_is_below, choice_by_neighbours}
use Rattle.applied.proofs.ranking.is_choice.Goals as goal

pub returns : goal.returns
returns c =
    let choice : IsChoice c.args.n c.args.numbers.now = choice_by_neighbours (λ j within. c.loop-place.invariant j (omega arith)) in
    record { choice = (λ _. choice, λ _. refl); rank_below = λ _. rank_is_below _ _ choice }
