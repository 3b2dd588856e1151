use Rattle.std.proofs.Common.{◌^◌, ◌<◌, arith, rules}
use Rattle.cellarcove_c.proofs.QuotientsByMultiplier.{quotient_by_multiplier}
use Rattle.cellarcove_c.proofs.invariant_divisors.InvariantDivisor.quotient.Goals as goal

pub returns : goal.returns
returns c =
    let d = c.args.self.now in
    let fits : d.multiplier < 2 ^ 64 = search rules in
    rw c.high_product-high.ensures (quotient_by_multiplier d.multiplier c.args.n d.divisor d.first_shift d.second_shift d.positive fits (omega (arith, c.ranges.n.fits)) d.first d.none d.above d.rounded)
