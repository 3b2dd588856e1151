use Rattle.calendar.proofs.Common.{ints, floored_remainder_range, to_z-of_z}
use Rattle.calendar.proofs.WeekdayPlaces.{weekday_after}
use Rattle.calendar.proofs.weekday.Weekday.plus_days.Goals as goal

pub returns : goal.returns
returns c =
    let days = c.ranges.days in
    let rest = simp to_z-of_z at c.mod_floor.ensures.floored in
    let range = floored_remainder_range (omega ints) rest in
    weekday_after rest (omega (ints, range, c.weekday_after_sunday.ensures, c.days_after_sunday.ensures.value, c.from.ensures))
