use Rattle.calendar.proofs.Common.{refl}
use Rattle.calendar.proofs.EasterSundays.{next_sunday}
use Rattle.calendar.proofs.feasts.days_to_next_sunday.Goals as goal

pub returns-clause-sunday : goal.returns-clause-sunday
returns-clause-sunday c =
    next_sunday {weekday = c.weekday.result} c.weekday.ensures c.days_after_sunday.ensures.value c.days_after_sunday.ensures.small refl
