use Rattle.bounded_integers.proofs.Computed.{computed}
use Rattle.bounded_integers.proofs.form.Own.number.Goals as goal

pub returns-clause-in_range : goal.returns-clause-in_range
returns-clause-in_range g c = rw c.to_number.ensures (g.met.F.Form.number_law _)

pub returns-clause-fits : goal.returns-clause-fits
returns-clause-fits g c = computed g.met.F.Number.Integer.range_law g.met.F.Form.ends_law (rw c.to_number.ensures (g.met.F.Form.number_law _))
