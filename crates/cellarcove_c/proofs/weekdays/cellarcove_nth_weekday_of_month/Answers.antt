use Rattle.cellarcove_c.proofs.Common.{w64, to_z-of_z}
use Rattle.cellarcove_c.proofs.weekdays.cellarcove_nth_weekday_of_month.Goals as goal

pub returns-in-Some-nth_weekday_of_month-clause-answer : goal.returns-in-Some-nth_weekday_of_month-clause-answer
returns-in-Some-nth_weekday_of_month-clause-answer c = λ _.
    let holds = rw (to_z-of_z w64 c.args.year c.ranges.year) at c.in-Some-nth_weekday_of_month.ensures.answer in
    record { day_of_week = c.in-Some.weekday; number = c.in-Some.ensures; date = _; parts = c.some.ensures.parts; holds = holds }
