use Rattle.calendar.proofs.Common.{ints}
use Rattle.calendar.proofs.DatesOfDays.{same_day_found}
use Rattle.calendar.proofs.date.Date.far_plus_days.Goals as goal

pub returns : goal.returns
returns c = same_day_found c.from_day_of_era.result (omega ints) c.from_day_of_era.ensures
