use Rattle.integer_core.proofs.Common.{arith, sizes, is_less}
use Rattle.integer_core.proofs.stein.next_pair.Goals as goal

pub odd_difference-requires-clause-below : goal.odd_difference-requires-clause-below
odd_difference-requires-clause-below g c = grind (arith, is_less, sizes, g.met.M.Magnitude.unsigned_law, g.M.Number.value, g.met.M.Number.order_law, g.met.M.Integral.exact_law, c.lt.ensures, c.if-lt.true)
