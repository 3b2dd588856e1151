use Rattle.applied.proofs.Common.{linear, fits_below, positive_quotient_fits}
use Rattle.applied.proofs.ItemRanges.{only_part_range, part_range, parts_positive, start_fits}
use Rattle.applied.proofs.paging.range_of_part.Goals as goal

pub div_mod_floor-size-requires-clause-quotient_fits : goal.div_mod_floor-size-requires-clause-quotient_fits
div_mod_floor-size-requires-clause-quotient_fits g c = λ q h.
    positive_quotient_fits g.met.T.Integer.range_law c.requires.in_range.2 c.requires.in_range.1
    (parts_positive c.requires.part_from_zero c.requires.part_below) h.division.division

pub start_of-first-requires : goal.start_of-first-requires
start_of-first-requires g c =
    let first = start_fits g.met.T.Integer.range_law c.requires.in_range.2 c.requires.from_zero c.div_mod_floor-size.ensures.floored
    c.requires.part_from_zero c.requires.part_below c.requires.part_from_zero (omega (linear, c.requires.part_below)) in
    let sizes = c.div_mod_floor-size.ensures.in_range in
    record { in_range = (c.requires.in_range.0, sizes.0, sizes.1); product_fits = first.0; start_fits = first.1 }

pub successor-requires-clause-sum_fits : goal.successor-requires-clause-sum_fits
successor-requires-clause-sum_fits g c =
    fits_below g.met.T.Integer.range_law c.requires.in_range.1
    (omega (linear, c.requires.part_from_zero)) (omega (linear, c.requires.part_below))

pub start_of-requires : goal.start_of-requires
start_of-requires g c =
    let next = start_fits {at = g.T.Number.value c.successor.result} g.met.T.Integer.range_law c.requires.in_range.2 c.requires.from_zero
    c.div_mod_floor-size.ensures.floored c.requires.part_from_zero c.requires.part_below
    (omega (linear, c.successor.ensures.value, c.requires.part_from_zero))
    (omega (linear, c.successor.ensures.value, c.requires.part_below)) in
    let sizes = c.div_mod_floor-size.ensures.in_range in
    record { in_range = (c.successor.ensures.in_range, sizes.0, sizes.1); product_fits = next.0; start_fits = next.1 }

pub returns-clause-range : goal.returns-clause-range
returns-clause-range g c = rw (c.start_of-first.ensures.start, c.start_of.ensures.start, c.successor.ensures.value)
    (part_range c.requires.from_zero c.div_mod_floor-size.ensures.floored c.requires.part_from_zero c.requires.part_below)

pub returns-clause-only : goal.returns-clause-only
returns-clause-only g c = only_part_range c.requires.part_from_zero c.requires.part_below (returns-clause-range g c)
