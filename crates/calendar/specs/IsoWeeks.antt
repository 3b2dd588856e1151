-- ISO 8601 weeks, which begin on Monday.
use Rattle.std.specs.Prelude.{◌≤◌, ◌+ℤ◌, ◌-ℤ◌, ◌*ℤ◌, ◌≤ℤ◌, ◌<ℤ◌, ℕ, ℤ, pos}
use Rattle.calendar.specs.Weeks.{HasWeekday}
use Rattle.calendar.specs.Years.{HasDay, first_day}
use Rattle.calendar.specs.declared.weekday.Weekday.{Weekday}
use Rattle.calendar.specs.declared.weekday.Weekday.TheVariants.{Thursday}

-- `thursday` is the Thursday of the week of `day`: the one that is at most three days away.
-- Examples: 0: 0; 3: 0; 4: 7; not 3: 7.
pub record IsThursdayOfWeek (day thursday : ℤ) : Type 0 where
  pub has_weekday : HasWeekday thursday Thursday
  pub from : (day -ℤ pos 3) ≤ℤ thursday
  pub to : thursday ≤ℤ (day +ℤ pos 3)

-- The day is in this week of this year. The year of a week is the year of its Thursday, and week 1 contains the first Thursday of the year.
-- Examples: 0: 1970, 1; 3: 1970, 1; 4: 1970, 2; -3: 1970, 1; -4: 1969, 52.
pub record IsInIsoWeek (day year : ℤ) (week : ℕ) : Type 0 where
  pub thursday : ℤ
  pub of_week : IsThursdayOfWeek day thursday
  pub of_year : HasDay year thursday
  pub from : (pos 7 *ℤ (pos week -ℤ pos 1)) ≤ℤ (thursday -ℤ first_day year)
  pub before : (thursday -ℤ first_day year) <ℤ (pos 7 *ℤ pos week)

-- The year has this week: some day is in it.
-- Examples: 2004 and 53; 2005 and 52; not 2005 and 53; not 2005 and 0.
pub record HasIsoWeek (year : ℤ) (week : ℕ) : Type 0 where
  pub day : ℤ
  pub in_week : IsInIsoWeek day year week

-- The day is in this week of the year, and is this day of the week.
-- Examples: 3: 1970, 1, Sunday; not 3: 1970, 2, Sunday.
pub record IsDayOfIsoWeek (day year : ℤ) (week : ℕ) (weekday : Weekday) : Type 0 where
  pub in_week : IsInIsoWeek day year week
  pub has_weekday : HasWeekday day weekday

-- The year has this number of weeks. Some day is in the last of them, and no day is in a later week of the year.
-- Examples: 2004: 53; 2005: 52; 2020: 53.
pub record HasIsoWeeks (year : ℤ) (weeks : ℕ) : Type 0 where
  pub day : ℤ
  pub in_last : IsInIsoWeek day year weeks
  pub no_later : (other : ℤ) (week : ℕ) → IsInIsoWeek other year week → week ≤ weeks

-- A day that is 7 · weeks days after one of the week `week` of `year` is in the week `later_week` of `later_year`.
-- Examples: 2004 and 53: 1: 2005 and 1; -53: 2003 and 52; 0: 2004 and 53.
pub record IsWeeksAfter (year : ℤ) (week : ℕ) (weeks later_year : ℤ) (later_week : ℕ) : Type 0 where
  pub day : ℤ
  pub in_week : IsInIsoWeek day year week
  pub in_later : IsInIsoWeek (day +ℤ pos 7 *ℤ weeks) later_year later_week
