use Rattle.modular.proofs.PowerIterations.{Halved, Powering}
use Rattle.modular.proofs.exponentiation.power_counted.Given as goal

abbrev pub invariant-halvings : goal.invariant-halvings
invariant-halvings g l =
    let meaning = g.F.ResidueForm.meaning l.fn.form in
    record {
      valid : g.F.ResidueForm.is_valid l.fn.form l.power × g.F.ResidueForm.is_valid l.fn.form l.square;
      kept : Powering (g.F.ResidueForm.modulus l.fn.form) (meaning l.fn.base) l.fn.exponent (meaning l.power) (meaning l.square) l.rest;
      halved : Halved l.fn.exponent l.rest l.iterations;
    }

abbrev pub decreases-halvings : goal.decreases-halvings
decreases-halvings g l = l.rest
