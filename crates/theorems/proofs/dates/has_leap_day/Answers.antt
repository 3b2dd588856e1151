use Rattle.theorems.proofs.Common.{to_z-of_z, leap_years_by_divisors}
use Rattle.theorems.proofs.dates.has_leap_day.Goals as goal

pub returns : goal.returns
returns c =
    let year = c.ranges.year in
    let leap = simp to_z-of_z at c.is_leap_year.ensures in
    rw leap (leap_years_by_divisors c.args.year)
