use Rattle.bounded_integers.proofs.Computed.{computed}
use Rattle.bounded_integers.proofs.operators.OwnAdd.add.Goals as goal

pub sum-requires-clause-sum_fits : goal.sum-requires-clause-sum_fits
sum-requires-clause-sum_fits g c = computed g.met.F.Number.Integer.range_law g.met.F.Form.ends_law (rw (c.number.ensures.value, c.number-2.ensures.value) c.requires)
