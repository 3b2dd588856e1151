use Rattle.std.proofs.Common.{w64}
use Rattle.std.proofs.lemmas.Int.{to_z-of_z}
use Rattle.cellarcove_c.proofs.FlooredQuotients.{complement_quotient}
use Rattle.cellarcove_c.proofs.invariant_divisors.MagnitudeDivisor.div_floor.Goals as goal

pub returns : goal.returns
returns c =
    let x_read = to_z-of_z w64 c.args.x c.ranges.x in
    let complement = rw x_read at c.complement_if_negative.ensures in
    let complement_back = rw x_read at c.complement_if_negative-2.ensures in
    let quotient = rw (to_z-of_z w64 c.complement_if_negative.result (record { sfits = c.complement_if_negative.type_inv })) at c.quotient.ensures in
    rw (to_z-of_z w64 c.complement_if_negative-2.result (record { sfits = c.complement_if_negative-2.type_inv }))
    (complement_quotient c.args.x c.complement_if_negative.result c.complement_if_negative-2.result c.quotient.result c.args.self.now.divisor c.args.self.now.positive c.ranges.x quotient complement.from_zero complement.below complement_back.from_zero complement_back.below)
