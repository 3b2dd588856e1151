use Rattle.calendar.proofs.Common.{◌≡◌, ◌+◌, ◌-◌, ◌+ℤ◌, ◌-ℤ◌, pos, FitsSigned, w64, arith, rules, ints, to_z-of_z}
use Rattle.calendar.proofs.DateOrder.{next_month, next_year}
use Rattle.calendar.proofs.date.Date.previous.Goals as goal

pub returns-then-month-gt1 : goal.returns-then-month-gt1
returns-then-month-gt1 c =
    let date = c.args.self.now in
    let year : FitsSigned w64 date.year = search rules in
    let month : date.month - 1 + 1 ≡ date.month = omega arith in
    let step = rw month at (next_month date.year (date.month - 1) (omega arith) (omega (arith, date.valid.month_to_twelve))) in
    simp to_z-of_z (omega (ints, step, simp to_z-of_z at c.length_of_month.ensures.days, date.valid.day_from_one))

pub returns-in_ok-checked_sub : goal.returns-in_ok-checked_sub
returns-in_ok-checked_sub c =
    let date = c.args.self.now in
    let year : FitsSigned w64 date.year = search rules in
    let month : date.month ≡ 1 = omega (arith, date.valid.month_from_one) in
    let (fits, is) = simp to_z-of_z at c.in_ok-checked_sub.ensures in
    let same : date.year -ℤ pos 1 +ℤ pos 1 ≡ date.year = omega ints in
    let step = rw same at (next_year (date.year -ℤ pos 1)) in
    rw (is, month) (simp to_z-of_z (omega (ints, step, date.valid.day_from_one)))
