use Rattle.std.proofs.Common.{map, pos}
use Rattle.cellarcove_c.proofs.FlooredQuotients.{AreFlooredTo}
use Rattle.cellarcove_c.proofs.invariant_divisors.write_unsigned.Given as goal

abbrev pub invariant-loop-i : goal.invariant-loop-i
invariant-loop-i l = AreFlooredTo (pos l.divisor.divisor) l.i (map (λ x. pos x) l.numbers) (map (λ x. pos x) l.quotients)
