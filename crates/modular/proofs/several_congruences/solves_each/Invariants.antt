use Rattle.modular.proofs.Common.{take, SolvesEachItem}
use Rattle.modular.proofs.several_congruences.solves_each.Given as goal

abbrev pub invariant-loop-item : goal.invariant-loop-item
invariant-loop-item g l = SolvesEachItem g.C.HasCongruence.residue_of g.C.HasCongruence.modulus_of (take l.item-index l.items) (g.T.Number.value l.x)
