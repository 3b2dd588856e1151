use Rattle.calendar.proofs.Common.{w64, of_z, to_z, arith, ints}
use Rattle.calendar.proofs.WeekdayPlaces.{last_or_beyond}
use Rattle.calendar.proofs.weeks.last_weekday_on_or_before.Goals as goal

pub returns : goal.returns
returns c =
    last_or_beyond _ {given = to_z w64 (of_z w64 c.args.day)} _ c.args.weekday c.days_until.result (omega (arith, ints)) c.weekday_of.ensures
    c.days_until.ensures.value c.days_until.ensures.small (omega (arith, ints, c.from.ensures)) c.checked_sub.ensures
