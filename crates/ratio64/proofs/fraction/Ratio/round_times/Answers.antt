use Rattle.ratio64.proofs.NearestNumbers.{narrowed_times, only_rounded}
use Rattle.ratio64.proofs.fraction.Ratio.round_times.Goals as goal

pub returns : goal.returns
returns c = narrowed_times _ c.narrowed.result c.ranges.n c.wide_round_times.ensures (only_rounded _ _ _ c.args.self.now.reduced.positive) c.narrowed.ensures
