use Rattle.cellarcove_c.proofs.Common.{w64, to_z-of_z}
use Rattle.cellarcove_c.proofs.dates.cellarcove_plus_months.Goals as goal

pub returns-in-None-plus_months-clause-not_fitting : goal.returns-in-None-plus_months-clause-not_fitting
returns-in-None-plus_months-clause-not_fitting c = λ _ year month day valid later.
    let parts = c.in-Some.ensures.1 in
    c.in-None-plus_months.ensures (record { year = year; month = month; day_of_month = day; valid = valid })
    (record { month_is = rw (parts.year_is, parts.month_is, to_z-of_z w64 _ c.ranges.months) later.month_is; day_is = rw parts.day_is later.day_is })
