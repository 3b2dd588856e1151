use Rattle.std.proofs.Common.{pos}
use Rattle.std.specs.Prelude.{neg_ℤ}
use Rattle.cellarcove_c.proofs.FlooredQuotients.{AreFlooredTo}
use Rattle.cellarcove_c.proofs.invariant_divisors.write_by_negative.Given as goal

abbrev pub invariant-loop-i : goal.invariant-loop-i
invariant-loop-i l = AreFlooredTo (neg_ℤ (pos l.divisor.divisor)) l.i l.numbers l.quotients
