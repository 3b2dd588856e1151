use Rattle.std.proofs.Common.{negsuc}
use Rattle.cellarcove_c.proofs.FlooredQuotients.{AreFlooredTo}
use Rattle.cellarcove_c.proofs.invariant_divisors.write_negations.Given as goal

abbrev pub invariant-loop-i : goal.invariant-loop-i
invariant-loop-i l = AreFlooredTo (negsuc 0) l.i l.numbers l.quotients
