use Rattle.cellarcove_c.proofs.Common.{w64, to_z-of_z}
use Rattle.cellarcove_c.proofs.congruences.cellarcove_chinese_remainder_i64.Goals as goal

pub returns : goal.returns
returns c =
    let class = rw (to_z-of_z w64 c.args.a c.ranges.a, to_z-of_z w64 c.args.m c.ranges.m, to_z-of_z w64 c.args.b c.ranges.b, to_z-of_z w64 c.args.n c.ranges.n) at c.class_of_both-status.ensures in
    rw (to_z-of_z w64 _ class.in_range.0, to_z-of_z w64 _ class.in_range.1)
    (record { answer = class.answer; bad_modulus = class.modulus_is_bad; not_fitting = class.step_is_beyond; no_solution = class.is_never; refusal = class.refusal })
