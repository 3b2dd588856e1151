use Rattle.calendar.proofs.Common.{ints}
use Rattle.calendar.proofs.FoundOrBeyond.{same_some}
use Rattle.calendar.proofs.date.Date.days_between.Goals as goal

pub returns : goal.returns
returns c = same_some c.days_of_eras.result (omega ints) c.days_of_eras.ensures
