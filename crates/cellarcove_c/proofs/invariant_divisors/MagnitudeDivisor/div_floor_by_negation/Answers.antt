use Rattle.std.proofs.Common.{w64}
use Rattle.std.proofs.lemmas.Int.{to_z-of_z}
use Rattle.cellarcove_c.proofs.FlooredQuotients.{negation_quotient}
use Rattle.cellarcove_c.proofs.invariant_divisors.MagnitudeDivisor.div_floor_by_negation.Goals as goal

pub returns : goal.returns
returns c =
    let sign_read = to_z-of_z w64 c.negative_unless_positive-sign.result (record { sfits = c.negative_unless_positive-sign.type_inv }) in
    let sign = rw (to_z-of_z w64 c.args.x c.ranges.x) at c.negative_unless_positive-sign.ensures in
    let complement = rw sign_read at c.complement_if_negative.ensures in
    let complement_back = rw sign_read at c.complement_if_negative-2.ensures in
    let bits = rw (to_z-of_z w64 c.complement_if_negative.result (record { sfits = c.complement_if_negative.type_inv })) at c.bits_of.ensures in
    negation_quotient c.args.x c.negative_unless_positive-sign.result c.complement_if_negative.result c.complement_if_negative-2.result c.bits_of.result c.wide_quotient-quotient.result c.args.self.now.divisor
    c.args.self.now.positive c.ranges.x (record { sfits = c.complement_if_negative-2.type_inv }) c.wide_quotient-quotient.ensures.small sign complement.from_zero complement.below bits c.wide_quotient-quotient.ensures.is complement_back.from_zero complement_back.below
