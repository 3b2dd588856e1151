use Rattle.calendar.proofs.Common.{FitsSigned, pos, w64, rules, ints}
use Rattle.calendar.proofs.MarchYears.{month_at}
use Rattle.calendar.proofs.date.Date.day_number.Goals as goal

pub returns-in-Some : goal.returns-in-Some
returns-in-Some c =
    let year : FitsSigned w64 c.args.self.now.year = search rules in
    let days = c.days_to_month in
    let month = month_at (pos 0, c.in-Some.year) c.args.self.now.month days.result year (omega (ints, c.in-Some.ensures)) days.ensures.day in
    omega (ints, month, c.from.ensures, c.from-in-Some.ensures)
