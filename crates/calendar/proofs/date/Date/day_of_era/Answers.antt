use Rattle.calendar.proofs.Common.{FitsSigned, w64, rules, ints}
use Rattle.calendar.proofs.MarchYears.{month_at}
use Rattle.calendar.proofs.date.Date.day_of_era.Goals as goal

pub returns-clause-number : goal.returns-clause-number
returns-clause-number c =
    let year : FitsSigned w64 c.args.self.now.year = search rules in
    let era = c.era_before_year-era in
    let days = c.days_to_month-month in
    omega (ints, month_at era.result c.args.self.now.month days.result year era.ensures.place days.ensures.day)
