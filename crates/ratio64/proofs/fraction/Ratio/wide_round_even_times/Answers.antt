use Rattle.ratio64.proofs.Common.{refl}
use Rattle.ratio64.proofs.RoundedProducts.{wide_quotient_fits, wide_rounded}
use Rattle.ratio64.proofs.fraction.Ratio.wide_round_even_times.Goals as goal

pub div_round_even-requires-clause-quotient_fits : goal.div_round_even-requires-clause-quotient_fits
div_round_even-requires-clause-quotient_fits c = λ q h. wide_quotient_fits c.times-num.ensures q _ h.division.division

pub returns : goal.returns
returns c =
    wide_rounded c.times-num.ensures c.ranges.n refl c.div_round_even.ensures.in_range c.div_round_even.ensures.nearest (λ m d s k. k.division)
