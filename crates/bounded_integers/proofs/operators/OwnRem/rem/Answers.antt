use Rattle.bounded_integers.proofs.Computed.{quotient_computed}
use Rattle.bounded_integers.proofs.operators.OwnRem.rem.Goals as goal

pub remainder-requires-clause-quotient_fits : goal.remainder-requires-clause-quotient_fits
remainder-requires-clause-quotient_fits g c = quotient_computed g.met.F.Number.Integer.range_law g.met.F.Form.ends_law g.met.F.Form.form_law c.number.ensures.in_range c.number-2.ensures.in_range (rw c.number-2.ensures.value c.requires)
