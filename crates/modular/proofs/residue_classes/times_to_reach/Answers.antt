use Rattle.modular.proofs.Common.{iff_false, positive_quotient_fits}
use Rattle.modular.proofs.BelowModulus.{below_positive}
use Rattle.modular.proofs.CommonSolutions.{next_quotient_fits, reached_by_next, reached_by_quotient}
use Rattle.modular.proofs.residue_classes.times_to_reach.Goals as goal

pub div_mod_floor-times-requires-clause-quotient_fits : goal.div_mod_floor-times-requires-clause-quotient_fits
div_mod_floor-times-requires-clause-quotient_fits g c q h =
    positive_quotient_fits g.met.T.Integer.range_law c.requires.in_range.0 c.requires.in_range.1 (below_positive c.requires.start_below) h.division.division

pub successor-requires-clause-sum_fits : goal.successor-requires-clause-sum_fits
successor-requires-clause-sum_fits g c =
    let found = c.div_mod_floor-times.ensures in
    next_quotient_fits g.met.T.Integer.range_law c.requires.in_range.0 found.in_range.0 c.requires.start_below (below_positive c.requires.start_below) found.floored (c.is_below.ensures.0 c.if-is_below.true)

pub returns-then-is_below-clause-times : goal.returns-then-is_below-clause-times
returns-then-is_below-clause-times g c =
    reached_by_next c.requires.start_below (below_positive c.requires.start_below) c.div_mod_floor-times.ensures.floored (c.is_below.ensures.0 c.if-is_below.true) c.successor.ensures.value

pub returns-else-is_below-clause-times : goal.returns-else-is_below-clause-times
returns-else-is_below-clause-times g c =
    reached_by_quotient c.requires.start_below (below_positive c.requires.start_below) c.div_mod_floor-times.ensures.floored (iff_false c.is_below.ensures c.if-is_below.false)
