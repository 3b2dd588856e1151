use Rattle.calendar.proofs.Common.{ints}
use Rattle.calendar.proofs.DatesOfDays.{some_date, this_date}
use Rattle.calendar.proofs.operators.DateSubI64.sub.Goals as goal

pub some-requires : goal.some-requires
some-requires c = some_date c.minus_days.result (omega ints) c.minus_days.ensures c.requires

pub returns : goal.returns
returns c = this_date c.minus_days.result c.some.result (omega ints) c.minus_days.ensures c.requires c.some.ensures
