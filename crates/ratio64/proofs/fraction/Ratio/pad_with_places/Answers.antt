use Rattle.ratio64.proofs.RoundedEven.{rounded_is}
use Rattle.ratio64.proofs.fraction.Ratio.pad_with_places.Goals as goal

pub returns : goal.returns
returns g c = λ flush ok.
    let x = c.args.self.now in
    let decimal = rw c.in_ok-rounded.ensures.ok_part at c.to_decimal.ensures in
    let units = rounded_is x.reduced.positive decimal.1.rounded in
    rw (units, decimal.1.places_are) at (c.pad_number.ensures.styled flush ok)
