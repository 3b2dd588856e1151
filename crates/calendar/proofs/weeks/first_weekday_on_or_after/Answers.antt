use Rattle.calendar.proofs.Common.{w64, of_z, to_z, arith, ints}
use Rattle.calendar.proofs.WeekdayPlaces.{first_or_beyond}
use Rattle.calendar.proofs.weeks.first_weekday_on_or_after.Goals as goal

pub returns : goal.returns
returns c =
    first_or_beyond _ {given = to_z w64 (of_z w64 c.args.day)} _ c.args.weekday c.days_until.result (omega (arith, ints)) c.weekday_of.ensures
    c.days_until.ensures.value c.days_until.ensures.small (omega (arith, ints, c.from.ensures)) c.checked_add.ensures
