use Rattle.modular.proofs.Common.{take, SolvesEachItem}
use Rattle.modular.proofs.Agreements.{Narrowed}
use Rattle.modular.proofs.several_congruences.least_solution.Given as goal

abbrev pub invariant-loop-item : goal.invariant-loop-item
invariant-loop-item g l =
    let value = g.T.Number.value in
    let Each = SolvesEachItem g.C.HasCongruence.residue_of g.C.HasCongruence.modulus_of in
    record {
      in_range : g.T.Number.fits (value l.class.residue) × g.T.Number.fits (value l.class.modulus);
      kept : Narrowed (Each l.items) (Each (take l.item-index l.items)) (value l.class.residue) (value l.class.modulus);
    }
