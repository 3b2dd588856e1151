use Rattle.ratio64.proofs.Common.{division_is_only}
use Rattle.ratio64.proofs.NearestNumbers.{narrowed_times, quotient_is_only}
use Rattle.ratio64.proofs.fraction.Ratio.ceil_times.Goals as goal

pub returns : goal.returns
returns c = narrowed_times _ c.narrowed.result c.ranges.n c.wide_ceil_times.ensures (quotient_is_only division_is_only.2) c.narrowed.ensures
