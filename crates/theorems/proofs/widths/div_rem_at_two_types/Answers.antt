use Rattle.theorems.proofs.Common.{ap}
use Rattle.num_integer.proofs.Laws as law
use Rattle.theorems.proofs.widths.div_rem_at_two_types.Goals as goal

pub returns : goal.returns
returns g c =
    let same = law.division_is_only.0 _ _ _ _ c.div_rem-2.ensures.truncated _ (rw (c.requires.same_number, c.requires.same_divisor) at c.div_rem.ensures.truncated) in
    record { defined = c.div_rem.ensures.truncated; same_quotient = ap (λ pair. pair.0) same; same_remainder = ap (λ pair. pair.1) same }
