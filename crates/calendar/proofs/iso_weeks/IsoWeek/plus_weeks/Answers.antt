use Rattle.calendar.proofs.Common.{ints}
use Rattle.calendar.proofs.DatesOfDays.{weeks_beyond}
use Rattle.calendar.proofs.IsoWeeks.{week_or_none}
use Rattle.calendar.proofs.iso_weeks.IsoWeek.plus_weeks.Goals as goal

pub returns-in_err-from_day_of_era : goal.returns-in_err-from_day_of_era
returns-in_err-from_day_of_era c =
    let beyond = c.in_err-from_day_of_era.ensures in
    rw c.from_residual.ensures (weeks_beyond c.args.weeks c.thursday.ensures (omega (ints, c.day_of_era-era.ensures.number, c.groups_and_rest-eras.ensures.place, c.from.ensures)) beyond)

pub returns : goal.returns
returns c =
    let place = c.in_ok-from_day_of_era.ensures in
    week_or_none c.iso_week.result c.args.weeks c.thursday.ensures.in_week
    (omega (ints, place, c.day_of_era-era.ensures.number, c.groups_and_rest-eras.ensures.place, c.from.ensures)) c.iso_week.ensures.week

pub overflow_add-era : goal.overflow_add-era
overflow_add-era c = omega (ints, c.day_of_era-era.ensures.small, c.groups_and_rest-eras.ensures.place)
