use Rattle.cellarcove_c.proofs.QuotientsByMultiplier.{positive_shift, wide_quotient}
use Rattle.cellarcove_c.proofs.invariant_divisors.MagnitudeDivisor.wide_quotient.Goals as goal

pub overflow_sub-result : goal.overflow_sub-result
overflow_sub-result c = let d = c.args.self.now in positive_shift d.divisor d.shift c.requires.other d.above

pub returns : goal.returns
returns c =
    let d = c.args.self.now in
    let (is, small) = wide_quotient d.multiplier c.args.n d.divisor d.shift c.requires.other c.requires.most d.above d.rounded in
    rw c.high_product.ensures (record { is = is; small = small })
