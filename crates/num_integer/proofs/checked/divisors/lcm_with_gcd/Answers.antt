use Rattle.num_integer.proofs.Common.{inr}
use Rattle.num_integer.proofs.CheckedAnswers.{zero_lcm}
use Rattle.num_integer.proofs.checked.divisors.lcm_with_gcd.Goals as goal

pub returns-then-is_zero : goal.returns-then-is_zero
returns-then-is_zero g c = zero_lcm g.T.Number.fits (inr (c.is_zero.ensures.0 c.if-is_zero.true)) c.zero.ensures.in_range c.zero.ensures.value
