use Rattle.std.proofs.Common.{lit<}
use Rattle.integer_core.proofs.divisors.is_even.Goals as goal

pub sum-requires-clause-sum_fits : goal.sum-requires-clause-sum_fits
sum-requires-clause-sum_fits g c = rw (c.one.ensures.value, c.one-2.ensures.value) (g.met.T.FixedWidth.small_fits_law 2 (lit< tt))

pub returns : goal.returns
returns g c = rw (c.sum.ensures.value, c.one.ensures.value, c.one-2.ensures.value) at c.is_multiple_of.ensures
