use Rattle.cellarcove_c.proofs.QuotientsByMultiplier.{quotient_of_double}
use Rattle.cellarcove_c.proofs.invariant_divisors.MagnitudeDivisor.quotient.Goals as goal

pub returns : goal.returns
returns c =
    let d = c.args.self.now in
    rw c.high_product.ensures (quotient_of_double d.multiplier c.args.n d.divisor d.shift d.positive c.requires d.above d.rounded)
