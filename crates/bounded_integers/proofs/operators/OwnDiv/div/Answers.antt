use Rattle.bounded_integers.proofs.Computed.{computed}
use Rattle.bounded_integers.proofs.operators.OwnDiv.div.Goals as goal

pub quotient-requires-clause-quotient_fits : goal.quotient-requires-clause-quotient_fits
quotient-requires-clause-quotient_fits g c = computed g.met.F.Number.Integer.range_law g.met.F.Form.ends_law (rw (c.number.ensures.value, c.number-2.ensures.value) c.requires.1)
