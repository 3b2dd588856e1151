use Rattle.cellarcove_c.proofs.Common.{w64, to_z-of_z}
use Rattle.cellarcove_c.proofs.rounding.cellarcove_fraction_ceil_times.Goals as goal

pub returns-in-Ok : goal.returns-in-Ok
returns-in-Ok c =
    let own = rw (to_z-of_z w64 c.args.n c.ranges.n) at c.ceil_times.ensures in
    (c.reduced.result, c.reduced.ensures, rw c.in-Ok.is (record { answer = rw c.of.ensures.answer own; refusal = c.of.ensures.refusal }))
