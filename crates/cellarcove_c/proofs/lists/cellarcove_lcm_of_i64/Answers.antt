use Rattle.cellarcove_c.proofs.Common.{map-id}
use Rattle.cellarcove_c.proofs.Weaker.{second_only}
use Rattle.cellarcove_c.proofs.lists.cellarcove_lcm_of_i64.Goals as goal

pub returns : goal.returns
returns c =
    let own = rw (map-id c.args.numbers.now) at c.lcm_of.ensures in
    record { answer = rw c.of.ensures.answer (second_only _ _ _ c.lcm_of.result own); refusal = c.of.ensures.refusal }
