use Rattle.num_integer.proofs.Common.{IsTrue}
use Rattle.num_integer.proofs.NearestQuotients.{nearest_even_is}
use Rattle.num_integer.proofs.nearest.div_round_even.Goals as goal

pub returns-clause-nearest : goal.returns-clause-nearest
returns-clause-nearest g c = nearest_even_is c.div_mod_floor-below.ensures.floored (IsTrue c.is_even.result) c.is_even.ensures c.nearer.ensures.nearer
