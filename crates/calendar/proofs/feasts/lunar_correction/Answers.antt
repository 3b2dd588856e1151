use Rattle.calendar.proofs.Common.{ints}
use Rattle.calendar.proofs.EasterSundays.{is_lunar}
use Rattle.calendar.proofs.feasts.lunar_correction.Goals as goal

pub returns-clause-value : goal.returns-clause-value
returns-clause-value c = is_lunar c.args.century (omega ints) (omega ints) c.div_floor.ensures.floored
