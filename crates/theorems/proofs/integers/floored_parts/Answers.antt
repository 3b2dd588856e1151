use Rattle.num_integer.proofs.Laws as law
use Rattle.theorems.proofs.integers.floored_parts.Goals as goal

pub returns : goal.returns
returns g c =
    let parts = law.floored_parts_add_up _ _ _ _ c.div_floor.ensures.floored c.mod_floor.ensures.floored in
    record { sum = parts.0; sign = parts.1; small = parts.2 }
