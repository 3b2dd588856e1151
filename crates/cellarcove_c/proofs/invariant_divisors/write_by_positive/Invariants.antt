use Rattle.std.proofs.Common.{pos}
use Rattle.cellarcove_c.proofs.FlooredQuotients.{AreFlooredTo}
use Rattle.cellarcove_c.proofs.invariant_divisors.write_by_positive.Given as goal

abbrev pub invariant-loop-i : goal.invariant-loop-i
invariant-loop-i l = AreFlooredTo (pos l.divisor.divisor) l.i l.numbers l.quotients
