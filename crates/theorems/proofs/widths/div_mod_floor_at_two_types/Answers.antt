use Rattle.theorems.proofs.Common.{ap}
use Rattle.num_integer.proofs.Laws as law
use Rattle.theorems.proofs.widths.div_mod_floor_at_two_types.Goals as goal

pub returns : goal.returns
returns g c =
    let same = law.division_is_only.1 _ _ _ _ c.div_mod_floor-2.ensures.floored _ (rw (c.requires.same_number, c.requires.same_divisor) at c.div_mod_floor.ensures.floored) in
    record { defined = c.div_mod_floor.ensures.floored; same_quotient = ap (λ pair. pair.0) same; same_remainder = ap (λ pair. pair.1) same }
