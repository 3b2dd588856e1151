use Rattle.calendar.proofs.Common.{arith, ints, to_z-of_z}
use Rattle.calendar.proofs.date.Date.plus_months.Goals as goal

pub returns : goal.returns
returns c = record {
  month_is = omega (ints, c.from.ensures, c.in_ok-year.ensures);
  day_is = grind (arith, to_z-of_z, c.length_of_month.ensures.days, c.min.ensures);
}
