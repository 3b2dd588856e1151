use Rattle.std.proofs.Common.{rules}
use Rattle.ratio64.proofs.fraction.Ratio.trunc.Goals as goal

pub div_rem-whole-requires-clause-quotient_fits : goal.div_rem-whole-requires-clause-quotient_fits
div_rem-whole-requires-clause-quotient_fits c = search rules
