use Rattle.std.proofs.Common.{arith}
use Rattle.std.proofs.lemmas.Int.{ints}
use Rattle.bounded_integers.proofs.Computed.{computed}
use Rattle.bounded_integers.proofs.numbers.OwnSigned.abs.Goals as goal

pub abs-requires : goal.abs-requires
abs-requires g c _ = computed g.met.F.Number.Integer.range_law g.met.F.Form.ends_law (omega (arith, ints, g.met.F.SignedForm.sign_law, c.number.ensures.in_range))
