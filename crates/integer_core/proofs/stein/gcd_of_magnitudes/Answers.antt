use Rattle.integer_core.proofs.ForAnswers.{gcd_swap, gcd_with_zero}
use Rattle.integer_core.proofs.stein.gcd_of_magnitudes.Goals as goal

pub returns-then-is_zero-clause-greatest : goal.returns-then-is_zero-clause-greatest
returns-then-is_zero-clause-greatest g c =
    rw (c.is_zero.ensures.0 c.if-is_zero.true) (gcd_swap (gcd_with_zero (g.met.M.Magnitude.unsigned_law c.args.n)))

pub returns-then-is_zero-2-clause-greatest : goal.returns-then-is_zero-2-clause-greatest
returns-then-is_zero-2-clause-greatest g c =
    rw (c.is_zero-else-is_zero.ensures.0 c.if-is_zero-2.true) (gcd_with_zero (g.met.M.Magnitude.unsigned_law c.args.m))
