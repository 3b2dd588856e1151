use Rattle.calendar.proofs.Common.{FitsSigned, w128, rules, ints, IsYearsBetween}
use Rattle.calendar.proofs.FoundOrBeyond.{found_or_beyond}
use Rattle.calendar.proofs.MonthSteps.{whole_years}
use Rattle.calendar.proofs.date.Date.years_between.Goals as goal

pub returns : goal.returns
returns c =
    let months : FitsSigned w128 c.whole_months.result = search rules in
    found_or_beyond (IsYearsBetween c.args.self.now c.args.to.now) c.narrowed.result c.narrowed.ensures
    (whole_years (omega ints) (omega ints) c.whole_months.ensures c.div_floor.ensures.floored)
