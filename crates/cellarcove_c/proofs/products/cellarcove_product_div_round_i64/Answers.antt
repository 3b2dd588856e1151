use Rattle.cellarcove_c.proofs.Common.{w64, arith, to_z-of_z}
use Rattle.cellarcove_c.proofs.Weaker.{second_only}
use Rattle.cellarcove_c.proofs.products.cellarcove_product_div_round_i64.Goals as goal

pub returns : goal.returns
returns c =
    let own = rw (to_z-of_z w64 c.args.a c.ranges.a, to_z-of_z w64 c.args.b c.ranges.b, to_z-of_z w64 c.args.d c.ranges.d) at c.product_div_round.ensures.answer in
    record { answer = rw c.of.ensures.answer (second_only _ _ _ c.product_div_round.result own); refusal = grind (arith, to_z-of_z) }
