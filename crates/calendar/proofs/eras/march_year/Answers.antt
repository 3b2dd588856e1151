use Rattle.calendar.proofs.Common.{ints}
use Rattle.calendar.proofs.MarchYears.{days_left, march_first, part_of_year, whole_years, years_in}
use Rattle.calendar.proofs.eras.march_year.Goals as goal

pub returns-clause-day : goal.returns-clause-day
returns-clause-day c = λ era. omega (ints, whole_years c.args.days (omega ints), march_first era (years_in c.args.days))

pub returns-clause-within : goal.returns-clause-within
returns-clause-within c = λ era. part_of_year era (years_in c.args.days) (days_left c.args.days) c.args.days (whole_years c.args.days (omega ints))
