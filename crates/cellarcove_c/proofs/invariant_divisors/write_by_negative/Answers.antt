use Rattle.std.proofs.Common.{rules}
use Rattle.cellarcove_c.proofs.FlooredQuotients.{one_more_signed}
use Rattle.cellarcove_c.proofs.invariant_divisors.write_by_negative.Goals as goal

pub loop-i-preserved : goal.loop-i-preserved
loop-i-preserved c =
    one_more_signed c.div_floor_by_negation.result (search rules) (record { sfits = c.div_floor_by_negation.type_inv }) c.loop-i-test.true c.div_floor_by_negation.ensures c.loop-i.invariant
