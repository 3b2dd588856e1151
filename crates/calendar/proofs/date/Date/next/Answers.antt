use Rattle.calendar.proofs.Common.{arith, ints, to_z-of_z}
use Rattle.calendar.proofs.DateOrder.{last_of_year, next_year}
use Rattle.calendar.proofs.date.Date.next.Goals as goal

pub returns-in_ok-checked_add : goal.returns-in_ok-checked_add
returns-in_ok-checked_add c =
    let last = last_of_year c.args.self.now.valid (omega arith) (c.ends_month.ensures.0 (cc)) in
    grind (ints, to_z-of_z, next_year c.args.self.now.year, c.in_ok-checked_add.ensures)
