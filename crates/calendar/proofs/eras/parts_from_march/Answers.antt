use Rattle.calendar.proofs.Common.{◌+ℤ◌, pos, arith, ints, to_z-of_z}
use Rattle.calendar.proofs.MarchYears.{third_month}
use Rattle.calendar.proofs.YearLengths.{next_first_day}
use Rattle.calendar.proofs.eras.parts_from_march.Goals as goal

pub returns-else-days-lt-DAYS_FROM_MARCH : goal.returns-else-days-lt-DAYS_FROM_MARCH
returns-else-days-lt-DAYS_FROM_MARCH c =
    let year = c.ranges.year in
    let next = c.requires.next_fits in
    let found = c.month_and_day-month.ensures.next_year (c.args.year +ℤ pos 1) c.if-days-lt-DAYS_FROM_MARCH.false (omega (arith, c.requires.within, third_month (c.args.year +ℤ pos 1))) in
    simp to_z-of_z (record { date = found.0; day = omega (ints, found.1, third_month c.args.year, next_first_day c.args.year) })
