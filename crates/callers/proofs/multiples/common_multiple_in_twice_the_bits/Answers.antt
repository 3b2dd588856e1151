use Rattle.callers.proofs.Common.{FitsUnsignedBits, arith, ints, lcm_at_most_product, pos, product_at_most, sizes, subst, unsigned_abs, ◌≡◌}
use Rattle.callers.proofs.multiples.common_multiple_in_twice_the_bits.Goals as goal

pub lcm-requires-clause-lcm_fits : goal.lcm-requires-clause-lcm_fits
lcm-requires-clause-lcm_fits c = λ l h.
    let m_is = c.from.ensures in
    let n_is = c.from-2.ensures in
    let m_fits = c.ranges.m in
    let n_fits = c.ranges.n in
    let size = product_at_most {u = pos c.from.result} {v = pos c.from-2.result} {x = pos 4294967295} {y = pos 4294967295} (omega (arith, sizes)) (omega (arith, sizes)) (omega (arith, sizes)) (omega (arith, sizes)) in
    let same : pos (unsigned_abs l) ≡ l = omega (arith, sizes, h.from_zero) in
    subst (FitsUnsignedBits 64) same (omega (arith, ints, sizes, size, lcm_at_most_product h, same))
