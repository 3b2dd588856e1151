use Rattle.bounded_integers.proofs.Computed.{computed}
use Rattle.bounded_integers.proofs.operators.OwnSub.sub.Goals as goal

pub difference-requires-clause-difference_fits : goal.difference-requires-clause-difference_fits
difference-requires-clause-difference_fits g c = computed g.met.F.Number.Integer.range_law g.met.F.Form.ends_law (rw (c.number.ensures.value, c.number-2.ensures.value) c.requires)
