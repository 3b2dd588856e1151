use Rattle.integer_roots.proofs.Common.{◌*◌, ◌^◌, rules, arith, refl, sym, pow_mono, div-eq_of_lt, one-le-pow, pow-le-pow_left, one_shl}
use Rattle.integer_roots.proofs.Powers.{power_of_power}
use Rattle.integer_roots.proofs.root_of_degree.quotient_by_power.Goals as goal

pub nonzero_div-result : goal.nonzero_div-result
nonzero_div-result c = let positive = one-le-pow c.args.k c.args.x c.requires.positive in search rules

pub returns-then-top-k-ge-BITS : goal.returns-then-top-k-ge-BITS
returns-then-top-k-ge-BITS c =
    let wide = pow_mono {i = 64} {j = c.ilog2-top.result * c.args.k} c.if-top-k-ge-BITS.true in
    let above = rw power_of_power at (pow-le-pow_left c.ilog2-top.ensures.power_le c.args.k) in
    sym (div-eq_of_lt {n = c.args.a} {m = c.args.x ^ c.args.k} (omega arith))

pub returns-then-x-top : goal.returns-then-x-top
returns-then-x-top c =
    rw (c.if-x-top.true, one_shl c.ilog2-top.result 64 c.ilog2-top.ensures.bound, power_of_power) refl
