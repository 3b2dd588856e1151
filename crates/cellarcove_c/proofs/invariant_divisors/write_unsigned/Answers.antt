use Rattle.cellarcove_c.proofs.FlooredQuotients.{one_more_natural}
use Rattle.cellarcove_c.proofs.invariant_divisors.write_unsigned.Goals as goal

pub loop-i-preserved : goal.loop-i-preserved
loop-i-preserved c =
    one_more_natural c.args.divisor.now.divisor c.loop-i.i c.args.numbers.now c.loop-i.quotients c.quotient.result c.args.divisor.now.positive c.loop-i-test.true c.quotient.ensures c.loop-i.invariant
