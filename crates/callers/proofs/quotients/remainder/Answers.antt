use Rattle.num_integer.proofs.ForCallers.{remainder_is_natural}
use Rattle.callers.proofs.quotients.remainder.Goals as goal

pub returns : goal.returns
returns c = remainder_is_natural c.requires c.mod_floor.ensures.floored
