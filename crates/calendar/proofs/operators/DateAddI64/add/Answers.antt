use Rattle.calendar.proofs.Common.{ints}
use Rattle.calendar.proofs.DatesOfDays.{some_date, this_date}
use Rattle.calendar.proofs.operators.DateAddI64.add.Goals as goal

pub some-requires : goal.some-requires
some-requires c = some_date c.plus_days.result (omega ints) c.plus_days.ensures c.requires

pub returns : goal.returns
returns c = this_date c.plus_days.result c.some.result (omega ints) c.plus_days.ensures c.requires c.some.ensures
