use Rattle.theorems.proofs.Common.{arith, linear}
use Rattle.num_integer.proofs.Laws as law
use Rattle.theorems.proofs.widths.gcd_at_both_widths_of_usize.Goals as goal

pub returns-clause-same : goal.returns-clause-same
returns-clause-same c = omega (arith, linear, law.gcd_is_only _ _ _ c.gcd-2.ensures.greatest _ c.gcd.ensures.greatest)
