use Rattle.calendar.proofs.Common.{FitsSigned, w64, arith, rules, ints}
use Rattle.calendar.proofs.NextLastWeekdays.{beyond_fits, of_next_month, of_this_month}
use Rattle.calendar.proofs.date.Date.next_last_weekday.Goals as goal

pub returns-then-self-of_this_month : goal.returns-then-self-of_this_month
returns-then-self-of_this_month c =
    let year : FitsSigned w64 c.args.self.now.year = search rules in
    of_this_month c.args.self.now c.last_weekday-of_this_month.result (omega ints) c.last_weekday-of_this_month.ensures (omega arith)

pub returns-in_err-next_month : goal.returns-in_err-next_month
returns-in_err-next_month c =
    let year : FitsSigned w64 c.args.self.now.year = search rules in
    let this = c.last_weekday-of_this_month in
    rw c.from_residual.ensures (beyond_fits c.args.self.now this.result (omega ints) this.ensures (omega arith) c.in_err-next_month.ensures)

pub returns : goal.returns
returns c =
    let year : FitsSigned w64 c.args.self.now.year = search rules in
    let later : FitsSigned w64 c.in_ok-next_month.next_month.year = search rules in
    let this = c.last_weekday-of_this_month in
    let next = c.last_weekday in
    let month = c.in_ok-next_month.ensures.month_is in
    of_next_month c.args.self.now this.result (omega ints) this.ensures next.result (omega arith) next.ensures (omega (ints, month))
