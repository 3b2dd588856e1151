use Rattle.num_integer.proofs.ForCallers.{natural_gcd_at_most}
use Rattle.callers.proofs.divisors.common_step.Goals as goal

pub returns-clause-small : goal.returns-clause-small
returns-clause-small c = natural_gcd_at_most _ _ _ 1439 c.requires.0 c.requires.1 c.gcd.ensures.greatest
