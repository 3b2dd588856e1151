use Rattle.calendar.proofs.Common.{◌+◌, ◌-◌, ◌%◌, ◌-ℤ◌, pos, FitsSigned, w64, refl, rules, ints, to_z-of_z}
use Rattle.calendar.proofs.IsoWeeks.{days_to_thursday}
use Rattle.calendar.proofs.MarchYears.{month_at}
use Rattle.calendar.proofs.iso_weeks.days_to_thursday_of_date.Goals as goal

pub returns : goal.returns
returns c =
    let date = c.args.date.now in
    let year : FitsSigned w64 date.year = search rules in
    let era = c.era_before_year-year_of_era in
    let n = c.days_to_month.result + c.from.result in
    let first = c.days_to_month-2.result in
    let month = month_at era.result date.month c.days_to_month.result year era.ensures.place c.days_to_month.ensures.day in
    let january = month_at era.result 1 first year era.ensures.place c.days_to_month-2.ensures.day in
    let (of_week, from, below) =
    days_to_thursday date era.result.0 _ n first (omega (ints, month, c.from.ensures)) (omega (ints, january)) refl in
    let thursday_fits : FitsSigned w64 (pos (n + 2 - (n + 1) % 7)) = omega (ints, c.days_to_month.ensures.small, c.from.ensures) in
    let first_fits : FitsSigned w64 (pos first) = omega (ints, c.days_to_month-2.ensures.small) in
    let fits : FitsSigned w64 (pos (n + 2 - (n + 1) % 7) -ℤ pos first) = omega ints in
    rw (c.from-2.ensures, c.from-3.ensures) (simp to_z-of_z (record { of_week = of_week; from = from; below = below }))
