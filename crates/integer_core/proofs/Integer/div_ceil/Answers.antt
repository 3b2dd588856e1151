use Rattle.integer_core.proofs.ForAnswers.{iff_false, floored_fits, ceiled_above, ceiled_exact}
use Rattle.integer_core.proofs.Integer.div_ceil.Goals as goal

pub div_mod_floor-q-requires-clause-quotient_fits : goal.div_mod_floor-q-requires-clause-quotient_fits
div_mod_floor-q-requires-clause-quotient_fits g c =
    floored_fits g.met.Self.Integer.range_law c.requires.self_in_range c.requires.other_in_range c.requires.quotient_fits

pub successor-requires-clause-sum_fits : goal.successor-requires-clause-sum_fits
successor-requires-clause-sum_fits g c =
    let inexact = iff_false c.is_zero.ensures c.if-is_zero.false in
    c.requires.quotient_fits _ (record { remainder = _; division = ceiled_above c.div_mod_floor-q.ensures.floored inexact })

pub returns-then-is_zero-clause-ceiled : goal.returns-then-is_zero-clause-ceiled
returns-then-is_zero-clause-ceiled g c = record { remainder = _; division = ceiled_exact c.div_mod_floor-q.ensures.floored (c.is_zero.ensures.0 c.if-is_zero.true) }

pub returns-else-is_zero-clause-ceiled : goal.returns-else-is_zero-clause-ceiled
returns-else-is_zero-clause-ceiled g c =
    let inexact = iff_false c.is_zero.ensures c.if-is_zero.false in
    rw c.successor.ensures.value (record { remainder = _; division = ceiled_above c.div_mod_floor-q.ensures.floored inexact })
