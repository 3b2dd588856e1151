use Rattle.modular.proofs.Common.{◌≤ℤ◌, ◌-ℤ◌, ℤ, unsigned_abs, SolvesEachItem}
use Rattle.modular.proofs.several_congruences.least_candidate.Given as goal

abbrev pub invariant-candidates : goal.invariant-candidates
invariant-candidates g l =
    let value = g.T.Number.value in
    record {
      next_in_range : g.T.Number.fits (value l.next);
      from_there : value l.fn.from ≤ℤ value l.next;
      passed : (x : ℤ) → value l.fn.from ≤ℤ x
          → SolvesEachItem g.C.HasCongruence.residue_of g.C.HasCongruence.modulus_of l.items x
          → value l.next ≤ℤ x;
    }

abbrev pub decreases-candidates : goal.decreases-candidates
decreases-candidates g l = unsigned_abs (g.T.Integer.high -ℤ g.T.Number.value l.next)
