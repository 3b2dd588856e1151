use Rattle.std.specs.Prelude.{ℤ}
use Rattle.std.proofs.Common.{arith, subst, sym}
use Rattle.num_integer.proofs.ForCallers.{sizes}
use Rattle.bounded_integers.proofs.integers.OwnFits.ends.Goals as goal

pub parts-requires : goal.parts-requires
parts-requires g c = subst (λ (z : ℤ). g.F.Number.Number.fits z) (sym c.bounds-low.ensures.low) g.met.F.Form.ends_law.0

pub parts-requires-2 : goal.parts-requires-2
parts-requires-2 g c = subst (λ (z : ℤ). g.F.Number.Number.fits z) (sym c.bounds-low.ensures.high) g.met.F.Form.ends_law.1

pub returns-clause-high : goal.returns-clause-high
returns-clause-high g c = omega (arith, sizes, c.parts-2.ensures.magnitude, c.bounds-low.ensures.high, g.met.F.Form.form_law.positive)
