use Rattle.num_integer.proofs.ForCallers.{quotient_is_natural}
use Rattle.callers.proofs.quotients.share.Goals as goal

pub returns : goal.returns
returns c = quotient_is_natural c.requires c.div_floor.ensures.floored
