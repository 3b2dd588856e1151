use Rattle.modular.proofs.Common.{ℤ, length, AgreeInPairs, IsSystem, SolvesEachItem}
use Rattle.modular.proofs.several_congruences.agree_in_pairs.Given as goal

abbrev pub invariant-pairs : goal.invariant-pairs
invariant-pairs g l =
    record {
      system : IsSystem g.T.Number.fits g.C.HasCongruence.residue_of g.C.HasCongruence.modulus_of l.rest;
      solved : (x : ℤ) → SolvesEachItem g.C.HasCongruence.residue_of g.C.HasCongruence.modulus_of l.items x
          → SolvesEachItem g.C.HasCongruence.residue_of g.C.HasCongruence.modulus_of l.rest x;
      agree : AgreeInPairs g.C.HasCongruence.residue_of g.C.HasCongruence.modulus_of l.rest
          → AgreeInPairs g.C.HasCongruence.residue_of g.C.HasCongruence.modulus_of l.items;
    }

abbrev pub decreases-pairs : goal.decreases-pairs
decreases-pairs g l = length l.rest
