use Rattle.num_integer.proofs.Common.{IsTrue, iff_false}
use Rattle.num_integer.proofs.NearestQuotients.{next_fits}
use Rattle.num_integer.proofs.nearest.nearer.Goals as goal

pub successor-requires-clause-sum_fits : goal.successor-requires-clause-sum_fits
successor-requires-clause-sum_fits g c =
    next_fits c.requires.floored.2 (IsTrue c.args.half_down) g.met.T.Integer.range_law c.requires.floored.1 c.requires.in_range.2 (iff_false c.rounds_down.ensures c.if-rounds_down.false)
