use Rattle.ratio64.proofs.DecimalTexts.{few_places, fitting_scale}
use Rattle.ratio64.proofs.WideSums.{read}
use Rattle.ratio64.proofs.fraction.Ratio.to_decimal.Goals as goal

pub returns-in_err-scale : goal.returns-in_err-scale
returns-in_err-scale c = rw c.from_residual.ensures (λ few. c.in_err-scale.ensures (fitting_scale c.args.places few))

pub invariant_of-result : goal.invariant_of-result
invariant_of-result c =
    let own = c.wide_round_even_times.ensures in
    record { few = few_places c.args.places c.in_ok-scale.ensures.0; below = rw (read c.wide_round_even_times.result own.1) own.1 }
