use Rattle.integer_core.proofs.ForAnswers.{arith, inl, inr, refl, sizes, gcd_nonzero, gcd_swap, lcm-of-sizes, lcm_zero, lcm_told, gcd_with_zero}
use Rattle.integer_core.proofs.stein.gcd_lcm_of_magnitudes.Goals as goal

pub returns-then-is_zero-clause-greatest : goal.returns-then-is_zero-clause-greatest
returns-then-is_zero-clause-greatest g c = rw (c.is_zero.ensures.0 c.if-is_zero.true) (gcd_swap (gcd_with_zero (g.met.M.Magnitude.unsigned_law c.args.n)))

pub returns-then-is_zero-clause-least : goal.returns-then-is_zero-clause-least
returns-then-is_zero-clause-least g c = (c.requires.0, rw (c.is_zero.ensures.0 c.if-is_zero.true) (lcm_zero (inl refl)))

pub returns-then-is_zero-2-clause-greatest : goal.returns-then-is_zero-2-clause-greatest
returns-then-is_zero-2-clause-greatest g c = rw (c.is_zero-else-is_zero.ensures.0 c.if-is_zero-2.true) (gcd_with_zero (g.met.M.Magnitude.unsigned_law c.args.m))

pub returns-then-is_zero-2-clause-least : goal.returns-then-is_zero-2-clause-least
returns-then-is_zero-2-clause-least g c = (c.requires.1, rw (c.is_zero-else-is_zero.ensures.0 c.if-is_zero-2.true) (lcm_zero (inr refl)))

pub times_quotient-requires : goal.times_quotient-requires
times_quotient-requires g c = gcd_nonzero c.positive_gcd-gcd.ensures.gcd.greatest (grind (arith, sizes))

pub returns-else-is_zero-2-clause-least : goal.returns-else-is_zero-2-clause-least
returns-else-is_zero-2-clause-least g c =
    lcm_told g.M.Number.value g.M.Number.fits _ (lcm-of-sizes (g.met.M.Magnitude.unsigned_law c.args.m) (g.met.M.Magnitude.unsigned_law c.args.n) (grind (arith, sizes)) c.positive_gcd-gcd.ensures.gcd.greatest refl refl)
    c.times_quotient.ensures
