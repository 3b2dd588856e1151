use Rattle.calendar.proofs.Common.{ints}
use Rattle.calendar.proofs.IsoWeeks.{day_or_none}
use Rattle.calendar.proofs.date.Date.from_iso_week.Goals as goal

pub returns : goal.returns
returns c =
    let found = c.in_nearby_year in
    let week = c.in_ok-thursday.ensures.week in
    day_or_none found.result c.in_ok-thursday.thursday c.args.weekday (omega ints) week (omega ints) found.ensures
