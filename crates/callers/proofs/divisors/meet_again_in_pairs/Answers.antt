use Rattle.num_integer.proofs.ForCallers.{first_multiple_at_u64}
use Rattle.callers.proofs.divisors.meet_again_in_pairs.Goals as goal

pub returns : goal.returns
returns c = first_multiple_at_u64 c.lcm.result c.requires.0 c.requires.1 c.lcm.ensures
