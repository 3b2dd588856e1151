use Rattle.cellarcove_c.proofs.Common.{arith, to_z-of_z, year_day_range}
use Rattle.cellarcove_c.proofs.dates.cellarcove_date_from_year_day.Goals as goal

pub returns-in-Some : goal.returns-in-Some
returns-in-Some c =
    let date = c.some.result.date in
    grind (arith, to_z-of_z, year_day_range {year = date.year} {month = date.month} {day = date.day_of_month} c.some.ensures.date)
