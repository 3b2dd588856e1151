use Rattle.ratio64.proofs.Common.{division_is_only}
use Rattle.ratio64.proofs.NearestNumbers.{narrowed_times, quotient_is_only}
use Rattle.ratio64.proofs.fraction.Ratio.floor_times.Goals as goal

pub returns : goal.returns
returns c = narrowed_times _ c.narrowed.result c.ranges.n c.wide_floor_times.ensures (quotient_is_only division_is_only.1) c.narrowed.ensures
