use Rattle.calendar.proofs.Common.{◌+◌, ◌/◌, ◌+ℤ◌, pos, unsigned_abs, ints, floored_remainder_range}
use Rattle.calendar.proofs.WeekdayPlaces.{on_weekday}
use Rattle.calendar.proofs.weekday.weekday_of.Goals as goal

pub returns : goal.returns
returns c =
    let rest = c.mod_floor.ensures.floored in
    let range = floored_remainder_range (omega ints) rest in
    let weeks = rest.quotient +ℤ pos ((unsigned_abs c.mod_floor.result + 4) / 7) in
    let found = c.weekday_after_sunday in
    (on_weekday {day = c.args.day} found.result weeks (omega (ints, rest.division, found.ensures))).remainder
