use Rattle.num_integer.proofs.Common.{IsTrue}
use Rattle.num_integer.proofs.NearestQuotients.{nearest_is}
use Rattle.num_integer.proofs.nearest.div_round.Goals as goal

pub returns-clause-nearest : goal.returns-clause-nearest
returns-clause-nearest g c = nearest_is c.div_mod_floor-below.ensures.floored (IsTrue c.is_negative.result) c.is_negative.ensures c.nearer.ensures.nearer
