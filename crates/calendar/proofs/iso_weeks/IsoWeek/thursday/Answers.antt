use Rattle.calendar.proofs.Common.{◌≡◌, ◌+◌, ◌-◌, ◌*◌, ◌+ℤ◌, pos, FitsSigned, w64, ap, arith, ints, rules, to_z-of_z, number_of, first_day}
use Rattle.calendar.proofs.IsoWeeks.{number_range, thursday_of_week}
use Rattle.calendar.proofs.iso_weeks.IsoWeek.thursday.Goals as goal

pub in_year-requires : goal.in_year-requires
in_year-requires c =
    let week = c.args.self.now in
    let year : FitsSigned w64 week.year = search rules in
    let first = simp to_z-of_z at c.days_to_first_thursday.ensures in
    simp to_z-of_z (thursday_of_week (c.days_to_first_thursday.result + 7 * (c.from.result - 1)) first.value first.small (omega (arith, number_range week.valid)) week.valid).0

pub returns : goal.returns
returns c =
    let week = c.args.self.now in
    let year : FitsSigned w64 week.year = search rules in
    let first = simp to_z-of_z at c.days_to_first_thursday.ensures in
    let place = c.days_to_first_thursday.result + 7 * (c.from.result - 1) in
    let same = simp to_z-of_z at c.in_year.ensures.year in
    let number : first_day week.year +ℤ pos place ≡ number_of c.in_year.result = omega (ints, c.in_year.ensures.day, ap first_day same) in
    rw number at (thursday_of_week place first.value first.small (omega (arith, number_range week.valid)) week.valid).1
