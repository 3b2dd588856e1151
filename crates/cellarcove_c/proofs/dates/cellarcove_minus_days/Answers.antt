use Rattle.cellarcove_c.proofs.Common.{w64, to_z-of_z}
use Rattle.cellarcove_c.proofs.dates.cellarcove_minus_days.Goals as goal

pub returns-in-None-minus_days-clause-not_fitting : goal.returns-in-None-minus_days-clause-not_fitting
returns-in-None-minus_days-clause-not_fitting c = λ _ year month day valid earlier.
    c.in-None-minus_days.ensures (record { year = year; month = month; day_of_month = day; valid = valid })
    (rw (c.in-Some.ensures.2, to_z-of_z w64 c.args.days c.ranges.days) earlier)
