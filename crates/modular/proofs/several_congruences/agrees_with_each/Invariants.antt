use Rattle.modular.proofs.Common.{take, AgreesWithEach}
use Rattle.modular.proofs.several_congruences.agrees_with_each.Given as goal

abbrev pub invariant-loop-item : goal.invariant-loop-item
invariant-loop-item g l = AgreesWithEach g.C.HasCongruence.residue_of g.C.HasCongruence.modulus_of (g.T.Number.value l.a) (g.T.Number.value l.m) (take l.item-index l.others)
