use Rattle.calendar.proofs.Common.{◌≡◌, ◌+ℤ◌, ◌*ℤ◌, pos, FitsSigned, w64, arith, rules, ints, to_z-of_z, to_z_pos}
use Rattle.calendar.proofs.eras.march_year_of_day.Goals as goal

pub returns : goal.returns
returns c =
    let era = c.groups_and_rest-era.result.0 in
    let years = c.march_year-years.result.0 in
    let same : pos 400 *ℤ (era +ℤ pos 4) +ℤ pos years ≡ pos 400 *ℤ era +ℤ (pos years +ℤ pos 1600) = omega ints in
    let march = rw same at (c.march_year-years.ensures.day (era +ℤ pos 4)) in
    let part = rw same at (c.march_year-years.ensures.within (era +ℤ pos 4)) in
    let era_fits : FitsSigned w64 era = search rules in
    let cast = to_z_pos w64 years (omega (arith, c.march_year-years.ensures.small)) in
    let scaled : FitsSigned w64 (pos 400 *ℤ era) = omega ints in
    let shifted : FitsSigned w64 (pos years +ℤ pos 1600) = omega ints in
    let whole : FitsSigned w64 (pos 400 *ℤ era +ℤ (pos years +ℤ pos 1600)) = omega ints in
    simp (cast, to_z-of_z) (record { day = omega (ints, march); within = part; next_fits = omega ints })
