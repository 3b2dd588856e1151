use Rattle.bounded_integers.proofs.Computed.{computed}
use Rattle.bounded_integers.proofs.numbers.OwnSigned.abs_sub.Goals as goal

pub abs_sub-requires : goal.abs_sub-requires
abs_sub-requires g c _ = computed g.met.F.Number.Integer.range_law g.met.F.Form.ends_law (rw (c.number.ensures.value, c.number-2.ensures.value) (c.requires tt))
