use Rattle.calendar.proofs.MarchYears.{month_of_march}
use Rattle.calendar.proofs.eras.days_to_month.Goals as goal

pub returns-clause-day : goal.returns-clause-day
returns-clause-day c = λ era.
    let after = c.from_march_on.ensures in
    let months = c.days_from_march.ensures in
    month_of_march c.args.month c.from_march_on.result c.days_from_march.result after.before after.after months.early months.late era c.args.year c.days_of_years.result c.days_of_years.ensures.day
