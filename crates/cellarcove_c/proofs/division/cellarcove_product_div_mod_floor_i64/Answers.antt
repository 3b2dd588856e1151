use Rattle.std.specs.Int.{w64}
use Rattle.std.proofs.lemmas.Int.{to_z-of_z}
use Rattle.cellarcove_c.proofs.Weaker.{third_only}
use Rattle.cellarcove_c.proofs.division.cellarcove_product_div_mod_floor_i64.Goals as goal

pub returns-clause-answer : goal.returns-clause-answer
returns-clause-answer c =
    let own = rw (to_z-of_z w64 c.args.a c.ranges.a, to_z-of_z w64 c.args.b c.ranges.b, to_z-of_z w64 c.args.d c.ranges.d) at c.product_div_mod_floor.ensures.answer in
    rw c.of.ensures.answer (third_only _ _ _ _ c.product_div_mod_floor.result own)
