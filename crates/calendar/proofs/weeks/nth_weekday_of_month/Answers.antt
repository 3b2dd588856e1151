use Rattle.calendar.proofs.Common.{IsNthWeekday, ◌≤◌, refl, rules, to_z-of_z}
use Rattle.calendar.proofs.MonthWeekdays.{fifth_is_found, first_of_month, nth_weekday, nth_weekday_exists}
use Rattle.calendar.proofs.FoundOrBeyond.{is_found}
use Rattle.calendar.proofs.WeekdayPlaces.{days_later}
use Rattle.calendar.proofs.weeks.nth_weekday_of_month.Goals as goal

pub returns-in_err-first-clause-exists : goal.returns-in_err-first-clause-exists
returns-in_err-first-clause-exists c = search (rules, first_of_month, c.in_err-first.ensures)

pub returns : goal.returns
returns c =
    let parts = simp (to_z-of_z, c.ranges.year) at c.in_ok-first.ensures in
    let found = simp (to_z-of_z, c.ranges.year) at c.new-2.ensures in
    let n_from : 1 ≤ c.args.n = search rules in
    let days = c.days_until in
    let weekday = days_later days.result refl c.weekday.ensures days.ensures.value in
    let answer = nth_weekday c.new-2.result c.in_ok-first.first parts weekday days.ensures.small n_from refl found in
    record {
      answer = answer;
      exists = λ from to _ n_to. is_found (IsNthWeekday c.args.year c.args.month c.args.weekday c.args.n) _
          (nth_weekday_exists _ _ _ _ from to n_from n_to) answer;
      fifth = λ from to five. fifth_is_found c.args.year c.args.month c.args.weekday c.new-2.result (rw five at answer) from to;
    }
