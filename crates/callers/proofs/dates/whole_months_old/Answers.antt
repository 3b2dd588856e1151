use Rattle.callers.proofs.Common.{FitsSigned, next_month_is_later, rules, to_z-of_z, w64}
use Rattle.callers.proofs.dates.whole_months_old.Goals as goal

pub returns : goal.returns
returns c =
    let fits : FitsSigned w64 c.in_ok-months_between.field-0 = search rules in
    simp to_z-of_z (c.in_ok-months_between.ensures.holds, λ date next. next_month_is_later c.in_ok-months_between.ensures next)
