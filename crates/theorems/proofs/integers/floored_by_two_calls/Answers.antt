use Rattle.theorems.proofs.Common.{ap}
use Rattle.num_integer.proofs.Laws as law
use Rattle.theorems.proofs.integers.floored_by_two_calls.Goals as goal

pub returns-clause-same : goal.returns-clause-same
returns-clause-same g c =
    let alone = c.div_floor.ensures.floored in
    ap (λ pair. pair.0) (law.division_is_only.1 _ _ _ _ c.div_mod_floor.ensures.floored (_, alone.remainder) alone.division)
