use Rattle.applied.proofs.Common.{ap, arith, length, sym, ◌∙◌}
use Rattle.applied.proofs.Instalments.{next_is_first}
use Rattle.applied.proofs.shares.equal.IterInstalmentsIterator.next.Goals as goal

pub returns-clause-steps : goal.returns-clause-steps
returns-clause-steps g c =
    sym c.self.view_is ∙ rw c.predecessor-self-inside.ensures.value (next_is_first _ _ _ c.self.invariant.from_zero (λ none. let zero = c.is_zero.ensures.1 none in absurd cc))

pub returns-clause-goes : goal.returns-clause-goes
returns-clause-goes g c = record { on = λ _. let fewer = ap length (returns-clause-steps g c) in (tt, tt, omega arith); keeps = tt; rests = λ _. tt }
