use Rattle.num_integer.proofs.Common.{iff_false, gcd_domain}
use Rattle.num_integer.proofs.checked.divisors.gcd.Goals as goal

pub returns-else-gcd_fits-clause-answer : goal.returns-else-gcd_fits-clause-answer
returns-else-gcd_fits-clause-answer g c = iff_false (gcd_domain g.met.T.Integer.range_law c.requires.x_in_range c.requires.y_in_range c.gcd_fits.ensures.domain) c.if-gcd_fits.false
