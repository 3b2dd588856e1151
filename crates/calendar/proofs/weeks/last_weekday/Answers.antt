use Rattle.calendar.proofs.Common.{refl, to_z-of_z}
use Rattle.calendar.proofs.MonthWeekdays.{in_last_week}
use Rattle.calendar.proofs.WeekdayPlaces.{days_earlier}
use Rattle.calendar.proofs.weeks.last_weekday.Goals as goal

pub returns : goal.returns
returns c =
    let year = c.ranges.year in
    let n = c.days_until.result in
    let last = days_earlier n refl (simp to_z-of_z at c.weekday.ensures) c.days_until.ensures.value in
    let length = simp to_z-of_z at c.length_of_month.ensures.days in
    in_last_week _ c.length_of_month.result n (record { year_is = simp to_z-of_z refl; month_is = refl; day_is = refl }) length last
    c.days_until.ensures.small
