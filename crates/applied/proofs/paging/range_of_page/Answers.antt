use Rattle.applied.proofs.Common.{linear, fits_below, from_test, positive_quotient_fits, refl}
use Rattle.applied.proofs.ItemRanges.{begins_in, none_after, none_before, only_page_range, short_page, whole_page}
use Rattle.applied.proofs.paging.range_of_page.Goals as goal

pub div_floor-requires-clause-quotient_fits : goal.div_floor-requires-clause-quotient_fits
div_floor-requires-clause-quotient_fits g c = λ q h.
    positive_quotient_fits g.met.T.Integer.range_law c.requires.in_range.2 c.requires.in_range.1 c.requires.positive h.division.division

pub returns-then-is_negative : goal.returns-then-is_negative
returns-then-is_negative g c =
    let range = none_before c.requires.positive c.requires.from_zero (c.if-is_negative.ensures.0 refl) in
    record { in_range = (c.requires.in_range.2, c.requires.in_range.2); range = range; only = only_page_range range }

pub returns-then-is_below : goal.returns-then-is_below
returns-then-is_below g c =
    let range = none_after c.requires.positive c.requires.from_zero c.div_floor.ensures.floored.division (c.if-is_below.ensures.0 refl) in
    record { in_range = (c.requires.in_range.2, c.requires.in_range.2); range = range; only = only_page_range range }

pub product-first-requires-clause-product_fits : goal.product-first-requires-clause-product_fits
product-first-requires-clause-product_fits g c =
    let within = begins_in c.requires.positive c.div_floor.ensures.floored.division (from_test c.is_negative-2.ensures c.if-is_negative.false) (from_test c.is_below.ensures c.if-is_below.false) in
    fits_below g.met.T.Integer.range_law c.requires.in_range.2 within.0 within.1

pub difference-requires-clause-difference_fits : goal.difference-requires-clause-difference_fits
difference-requires-clause-difference_fits g c =
    let within = begins_in c.requires.positive c.div_floor.ensures.floored.division (from_test c.is_negative-2.ensures c.if-is_negative.false) (from_test c.is_below.ensures c.if-is_below.false) in
    rw c.product-first.ensures.value (fits_below g.met.T.Integer.range_law c.requires.in_range.2
    (omega (linear, within.1)) (omega (linear, within.0)))

pub sum-requires-clause-sum_fits : goal.sum-requires-clause-sum_fits
sum-requires-clause-sum_fits g c =
    let within = begins_in c.requires.positive c.div_floor.ensures.floored.division (from_test c.is_negative-2.ensures c.if-is_negative.false) (from_test c.is_below.ensures c.if-is_below.false) in
    let enough = rw c.difference.ensures.value at (from_test c.is_below-2.ensures c.if-is_below-2.false) in
    fits_below g.met.T.Integer.range_law c.requires.in_range.2
    (omega (linear, within.0, c.product-first.ensures.value, c.requires.positive)) (omega (linear, enough))

pub returns-then-is_below-2 : goal.returns-then-is_below-2
returns-then-is_below-2 g c =
    let within = begins_in c.requires.positive c.div_floor.ensures.floored.division (from_test c.is_negative-2.ensures c.if-is_negative.false) (from_test c.is_below.ensures c.if-is_below.false) in
    let range = short_page within c.product-first.ensures.value c.difference.ensures.value (c.is_below-2.ensures.0 c.if-is_below-2.true) in
    record { in_range = (c.product-first.ensures.in_range, c.requires.in_range.2); range = range; only = only_page_range range }

pub returns-else-is_below-2 : goal.returns-else-is_below-2
returns-else-is_below-2 g c =
    let within = begins_in c.requires.positive c.div_floor.ensures.floored.division (from_test c.is_negative-2.ensures c.if-is_negative.false) (from_test c.is_below.ensures c.if-is_below.false) in
    let enough = from_test c.is_below-2.ensures c.if-is_below-2.false in
    let range = whole_page within c.product-first.ensures.value c.difference.ensures.value c.requires.positive enough c.sum.ensures.value in
    record { in_range = (c.product-first.ensures.in_range, c.sum.ensures.in_range); range = range; only = only_page_range range }
