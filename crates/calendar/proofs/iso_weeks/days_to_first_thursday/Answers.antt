use Rattle.calendar.proofs.Common.{ints, first_day}
use Rattle.calendar.proofs.IsoWeeks.{to_thursday}
use Rattle.calendar.proofs.MarchYears.{month_at}
use Rattle.calendar.proofs.iso_weeks.days_to_first_thursday.Goals as goal

pub returns-clause-value : goal.returns-clause-value
returns-clause-value c =
    let era = c.era_before_year-year_of_era in
    let days = c.days_to_month-days_to_january in
    let january = month_at era.result 1 days.result c.ranges.year era.ensures.place days.ensures.day in
    to_thursday {first = first_day c.args.year} era.result.0 days.result (omega (ints, january))
