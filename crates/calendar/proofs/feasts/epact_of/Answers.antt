use Rattle.calendar.proofs.Common.{FitsSigned, w64, ints, to_z-of_z}
use Rattle.calendar.proofs.EasterSundays.{is_epact}
use Rattle.calendar.proofs.feasts.epact_of.Goals as goal

pub returns-clause-value : goal.returns-clause-value
returns-clause-value c =
    let solar : FitsSigned w64 c.solar_correction.result = omega ints in
    let lunar : FitsSigned w64 c.lunar_correction.result = omega ints in
    let sum = simp to_z-of_z at c.epact_sum-sum.ensures.value in
    is_epact c.args.golden (omega ints) c.solar_correction.ensures.value c.lunar_correction.ensures.value
    (omega (ints, sum)) c.mod_floor.ensures.floored (omega ints)
