-- Definitions about dates. A year may be any integer.
use Rattle.std.specs.Prelude.{◌≡◌, ◌⊎◌, ◌<◌, ◌≤◌, ◌<ℤ◌, ◌≤ℤ◌, ◌+◌, ◌*◌, ◌+ℤ◌, ◌-ℤ◌, ◌*ℤ◌, ℕ, zero, suc, ℤ, pos, List, [], ◌∷◌, min, unsigned_abs}
use Rattle.std.specs.Int.{int_max}
use Rattle.calendar.specs.Months.{days_before_month, days_in_month, month_number}
use Rattle.calendar.specs.Weeks.{HasWeekday}
use Rattle.calendar.specs.Years.{day_number}
use Rattle.calendar.specs.declared.date.Date.{Date}
use Rattle.calendar.specs.declared.weekday.Weekday.{Weekday}

-- ---- one date

-- This is the number of days from 1970-01-01 to the date.
-- Examples: 1970-01-01: 0; 2000-03-01: 11017; 1969-12-31: -1.
abbrev pub number_of : Date → ℤ
number_of date = day_number date.year date.month date.day_of_month

-- This is the day of the year: 1 on 1 January.
-- Examples: 1970-01-01: 1; 2000-03-01: 61; 1969-12-31: 365.
abbrev pub year_day_of : Date → ℕ
year_day_of date = days_before_month date.year date.month + date.day_of_month

-- The date has this year, this month and this day of the month.
-- Examples: 2000-02-29: 2000, 2, 29; not 2000, 3, 1.
pub record HasParts (date : Date) (year : ℤ) (month day : ℕ) : Type 0 where
  pub year_is : date.year ≡ year
  pub month_is : date.month ≡ month
  pub day_is : date.day_of_month ≡ day

-- The first date has the smaller year; or the same year and the smaller month; or the same year and month, and the smaller day of the month.
-- Examples: 1999-12-31 before 2000-01-01; 2000-02-28 before 2000-02-29; no date before itself.
abbrev pub IsEarlier : Date → Date → Type 0
IsEarlier a b = (a.year <ℤ b.year) ⊎ ((a.year ≡ b.year) × ((a.month < b.month) ⊎ ((a.month ≡ b.month) × (a.day_of_month < b.day_of_month))))

-- ---- the days from one date to another

-- This is the list of `count` numbers from `first` on. Each is 1 more than the one before it.
-- Examples: 3 from -1: -1, 0, 1; 0 from 5: the empty list.
unfoldable pub numbers_from : ℕ → ℤ → List ℤ
numbers_from zero first = []
numbers_from (suc count) first = first ∷ numbers_from count (first +ℤ pos 1)

-- These are the day numbers from `first` on that are less than `end`.
-- Examples: -1 and 2: -1, 0, 1; 2 and 2: the empty list; 3 and 2: the empty list.
abbrev pub day_numbers : ℤ → ℤ → List ℤ
day_numbers first end = numbers_from (unsigned_abs (int_max (pos 0) (end -ℤ first))) first

-- ---- dates some months apart

-- The month of the date is `months` months after the month of `from`. The day of the month is the same, or the last day if the month is shorter.
-- Examples: from 2000-01-31: 0: 2000-01-31; 1: 2000-02-29; -2: 1999-11-30; not 2000-02-28 at 1.
pub record IsMonthsAfter (from : Date) (months : ℤ) (date : Date) : Type 0 where
  pub month_is : month_number date.year date.month ≡ month_number from.year from.month +ℤ months
  pub day_is : date.day_of_month ≡ min from.day_of_month (days_in_month date.year date.month)

-- The date `months` months after `from` is not after `to`.
-- Examples: from 2000-01-31 to 2000-03-30: 1 (2000-02-29); -7; not 2 (2000-03-31).
pub record HasMonths (from to : Date) (months : ℤ) : Type 0 where
  pub date : Date
  pub is_after : IsMonthsAfter from months date
  pub not_later : number_of date ≤ℤ number_of to

-- The date `months` months after `from` is not after `to`, and no larger number of months leads to such a date.
-- Examples: 2000-01-31 to 2000-02-29: 1; 2000-02-29 to 2001-02-28: 12; 2000-03-01 to 2000-02-29: -1.
pub record IsMonthsBetween (from to : Date) (months : ℤ) : Type 0 where
  pub holds : HasMonths from to months
  pub greatest : (more : ℤ) → HasMonths from to more → more ≤ℤ months

-- The date `years` times 12 months after `from` is not after `to`, and no larger number of years leads to such a date.
-- Examples: 2000-02-29 to 2001-02-28: 1; 2000-03-01 to 2001-02-28: 0; 2000-03-01 to 2000-02-29: -1.
pub record IsYearsBetween (from to : Date) (years : ℤ) : Type 0 where
  pub holds : HasMonths from to (pos 12 *ℤ years)
  pub greatest : (more : ℤ) → HasMonths from to (pos 12 *ℤ more) → more ≤ℤ years

-- ---- the last day, and the n-th and the last weekday of a month

-- The date has this year and this month, and no other such date is later.
-- Examples: 2000 and 2: 2000-02-29; 1900 and 2: 1900-02-28; not 2000 and 2: 2000-02-28.
pub record IsLastOfMonth (year : ℤ) (month : ℕ) (date : Date) : Type 0 where
  pub year_is : date.year ≡ year
  pub month_is : date.month ≡ month
  pub last : (other : Date) → other.year ≡ year → other.month ≡ month → number_of other ≤ℤ number_of date

-- The date has this year, this month and this day of the week. Its day of the month is greater than 7·(n - 1) and at most 7·n.
-- Examples: 2026, 11, Thursday: 1: 2026-11-05; 4: 2026-11-26; none at 0 or 5.
pub record IsNthWeekday (year : ℤ) (month : ℕ) (weekday : Weekday) (n : ℕ) (date : Date) : Type 0 where
  pub year_is : date.year ≡ year
  pub month_is : date.month ≡ month
  pub has_weekday : HasWeekday (number_of date) weekday
  pub after_weeks : 7 * n < date.day_of_month + 7
  pub within_weeks : date.day_of_month ≤ 7 * n

-- A day of the month that 28 more days of the month follow has this day of the week.
-- Examples: 2026, 10: Thursday (2026-10-01), Saturday (2026-10-03); not Sunday (2026-10-04); 2026, 2: none.
pub record HasFifthWeekday (year : ℤ) (month : ℕ) (weekday : Weekday) : Type 0 where
  pub day : ℕ
  pub from_one : 1 ≤ day
  pub before_four_weeks : day + 28 ≤ days_in_month year month
  pub has_weekday : HasWeekday (day_number year month day) weekday

-- The date has this year, this month and this day of the week.
-- Examples: 2026, 11, Thursday: 2026-11-05; 2026-11-26; not 2026-11-27.
pub record IsWeekdayOfMonth (year : ℤ) (month : ℕ) (weekday : Weekday) (date : Date) : Type 0 where
  pub year_is : date.year ≡ year
  pub month_is : date.month ≡ month
  pub has_weekday : HasWeekday (number_of date) weekday

-- The date has this year, this month and this day of the week, and no other such date is later.
-- Examples: 2026, 11, Thursday: 2026-11-26; 2026, 10, Friday: 2026-10-30; not 2026-10-23.
pub record IsLastWeekdayOfMonth (year : ℤ) (month : ℕ) (weekday : Weekday) (date : Date) : Type 0 where
  pub of_month : IsWeekdayOfMonth year month weekday date
  pub last : (other : Date) → IsWeekdayOfMonth year month weekday other → number_of other ≤ℤ number_of date

-- The date is the first after `after` that is the last `weekday` of its month.
-- Examples: Friday: after 2026-10-30: 2026-11-27; after 2026-11-26: 2026-11-27; after 2026-11-27: 2026-12-25.
pub record IsNextLastWeekday (after : Date) (weekday : Weekday) (date : Date) : Type 0 where
  pub later : number_of after <ℤ number_of date
  pub last : IsLastWeekdayOfMonth date.year date.month weekday date
  pub first : (other : Date) → number_of after <ℤ number_of other → IsLastWeekdayOfMonth other.year other.month weekday other → number_of date ≤ℤ number_of other
