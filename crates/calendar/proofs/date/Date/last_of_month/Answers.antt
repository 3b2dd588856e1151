use Rattle.calendar.proofs.Common.{FitsSigned, w64, refl, rules, to_z-of_z}
use Rattle.calendar.proofs.DateOrder.{last_of_month}
use Rattle.calendar.proofs.date.Date.last_of_month.Goals as goal

pub returns-clause-last : goal.returns-clause-last
returns-clause-last c =
    let year : FitsSigned w64 c.args.self.now.year = search rules in
    let days = simp to_z-of_z at c.length_of_month.ensures.days in
    last_of_month _ (record { year_is = simp to_z-of_z refl; month_is = refl; day_is = days })
