use Rattle.calendar.proofs.Common.{◌∙◌, arith, sym, to_z-of_z}
use Rattle.calendar.proofs.DateOrder.{only_date}
use Rattle.calendar.proofs.date.Date.from_day_number.Goals as goal

pub returns-clause-number : goal.returns-clause-number
returns-clause-number c = grind (arith, to_z-of_z)

pub returns-clause-only : goal.returns-clause-only
returns-clause-only c = λ date e. only_date date _ (e ∙ sym (returns-clause-number c))
