use Rattle.calendar.proofs.Common.{ints}
use Rattle.calendar.proofs.LaterEras.{later_or_none}
use Rattle.calendar.proofs.date.Date.from_day_of_era.Goals as goal

pub returns : goal.returns
returns c = later_or_none c.eras_later.result c.from_day_number.result c.args.era (omega ints) (omega ints) c.eras_later.ensures
