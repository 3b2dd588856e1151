use Rattle.std.proofs.Common.{arith}
use Rattle.std.proofs.lemmas.Int.{ints}
use Rattle.bounded_integers.proofs.Computed.{computed}
use Rattle.bounded_integers.proofs.operators.OwnNeg.neg.Goals as goal

pub negated-requires-clause-negation_fits : goal.negated-requires-clause-negation_fits
negated-requires-clause-negation_fits g c = computed g.met.F.Number.Integer.range_law g.met.F.Form.ends_law (omega (arith, ints, g.met.F.SignedForm.sign_law, c.number.ensures.in_range))
