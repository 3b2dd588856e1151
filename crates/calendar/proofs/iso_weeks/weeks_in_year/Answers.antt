use Rattle.calendar.proofs.Common.{to_z-of_z}
use Rattle.calendar.proofs.IsoWeeks.{has_52_weeks, has_53_weeks}
use Rattle.calendar.proofs.iso_weeks.weeks_in_year.Goals as goal

pub returns-in-Some-clause-weeks : goal.returns-in-Some-clause-weeks
returns-in-Some-clause-weeks c =
    let year = c.ranges.year in has_53_weeks (record { day = _; in_week = (simp to_z-of_z at c.in-Some.ensures.week).in_week })

pub returns-in-None-clause-weeks : goal.returns-in-None-clause-weeks
returns-in-None-clause-weeks c = let year = c.ranges.year in has_52_weeks (simp to_z-of_z at c.in-None.ensures.week)
