use Rattle.calendar.proofs.Common.{FitsSigned, w64, arith, rules, ints, to_z-of_z}
use Rattle.calendar.proofs.date.Date.in_nearby_year.Goals as goal

pub returns-in_err-year : goal.returns-in_err-year
returns-in_err-year c = grind (arith, to_z-of_z)

pub returns : goal.returns
returns c =
    let year = c.ranges.year in
    let days = c.ranges.days in
    let own : FitsSigned w64 c.in_ok-year.year = search rules in
    let (within, place) = simp to_z-of_z at c.in_ok-year.ensures in
    let same = simp to_z-of_z at c.in_year.ensures.year in
    let day = rw same at c.in_year.ensures.day in
    rw same (omega (ints, place, day))
