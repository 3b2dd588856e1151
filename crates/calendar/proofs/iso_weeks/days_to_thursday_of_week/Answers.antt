use Rattle.calendar.proofs.Common.{w64, arith, refl, to_z-of_z}
use Rattle.calendar.proofs.IsoWeeks.{thursday_in_year, within_year}
use Rattle.calendar.proofs.iso_weeks.days_to_thursday_of_week.Goals as goal

pub returns-then-is_longer_than-clause-week : goal.returns-then-is_longer_than-clause-week
returns-then-is_longer_than-clause-week c =
    let first = c.days_to_first_thursday.ensures in
    rw (← to_z-of_z w64 c.args.year c.ranges.year) (thursday_in_year _ first.value first.small (omega arith) (c.if-is_longer_than.ensures.0 refl))

pub returns-else-is_longer_than-clause-week : goal.returns-else-is_longer_than-clause-week
returns-else-is_longer_than-clause-week c = rw (← to_z-of_z w64 c.args.year c.ranges.year) (λ h.
    let first = c.days_to_first_thursday.ensures in
    let clash = c.if-is_longer_than.ensures.1 (within_year _ first.value first.small (omega arith) h.in_week) in
    cc)
