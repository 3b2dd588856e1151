-- Days that have a given day of the week.
use Rattle.std.specs.Prelude.{◌+ℤ◌, ℤ, pos}
use Rattle.integer_core.specs.Division.{IsFloored, IsRemainder}
use Rattle.integer_core.specs.Least.{IsGreatestTo, IsLeastFrom}
use Rattle.calendar.specs.Weekday.{weekday_number}
use Rattle.calendar.specs.declared.weekday.Weekday.{Weekday}

-- The day has this day of the week. Day 0 is a Thursday, so the number of the day of the week is the floored remainder of day + 4 by 7.
-- Examples: 0: Thursday; 3: Sunday; -4: Sunday.
pub record HasWeekday (day : ℤ) (weekday : Weekday) : Type 0 where
  pub remainder : IsRemainder IsFloored (day +ℤ pos 4) (pos 7) (pos (weekday_number weekday))

-- A day that is `days` days after one with the day of the week `from` has this day of the week.
-- Examples: Monday: 10: Thursday; -1: Sunday; 7: Monday.
pub record IsWeekdayAfter (from : Weekday) (days : ℤ) (weekday : Weekday) : Type 0 where
  pub holds : (day : ℤ) → HasWeekday day from → HasWeekday (day +ℤ days) weekday

-- The day is the first from `from` on that has the day of the week.
-- Examples: Sunday: from 0: 3; from 3: 3; from 4: 10.
abbrev pub IsFirstWeekday : ℤ → Weekday → ℤ → Type 0
IsFirstWeekday from weekday day = IsLeastFrom from (λ day. HasWeekday day weekday) day

-- The day is the last up to `to` that has the day of the week.
-- Examples: Sunday: to 4: 3; to 3: 3; to 2: -4.
abbrev pub IsLastWeekday : ℤ → Weekday → ℤ → Type 0
IsLastWeekday to weekday day = IsGreatestTo to (λ day. HasWeekday day weekday) day
