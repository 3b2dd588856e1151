use Rattle.applied.proofs.ForCallers.{meeting_of_three_at_u64}
use Rattle.callers.proofs.divisors.meet_again.Goals as goal

pub returns : goal.returns
returns c = meeting_of_three_at_u64 c.lcm_of.result c.requires.0 c.requires.1 c.requires.2 c.lcm_of.ensures
