-- Dates by their year, month and day of the month.
use Rattle.std.specs.Int.{w64}
use Rattle.std.specs.Prelude.{◌≡◌, ◌+ℤ◌, ℕ, ℤ, pos, min, FitsSigned, MatchOption, Option}
use Rattle.calendar.specs.Dates.{HasParts, IsLastWeekdayOfMonth, IsMonthsBetween, IsNthWeekday, IsYearsBetween}
use Rattle.calendar.specs.IsoWeeks.{IsDayOfIsoWeek}
use Rattle.calendar.specs.Months.{IsDate, days_in_month, month_number}
use Rattle.calendar.specs.Weekday.{iso_number}
use Rattle.calendar.specs.Years.{HasDay, day_number}
use Rattle.calendar.specs.declared.date.Date.{Date}
use Rattle.calendar.specs.declared.weekday.Weekday.{Weekday}
use Rattle.cellarcove_c.specs.declared.dates.Date.{Date as Parts}

-- There is such a date.
-- Examples: 2000-02-29; not 1900-02-29; not 2000-13-01.
abbrev pub Exists : Parts → Type 0
Exists date = IsDate date.year date.month date.day_of_month

-- The day of a date, counted from 1970-01-01, which is day 0.
-- Examples: of 1970-01-02: 1; of 1969-12-31: -1.
abbrev pub day_of : Parts → ℤ
day_of date = day_number date.year date.month date.day_of_month

-- The zeros in place of a date.
-- Examples: year 0, month 0, day of the month 0.
abbrev pub zero_date : Parts
zero_date = record { year = pos 0; month = 0; day_of_month = 0 }

-- A date is in the month that is `months` after that of another, on the same day of the month, or on the last if there is no such
-- day.
-- Examples: from 2000-01-31, 1 month: 2000-02-29; not 2000-03-02.
pub record IsMonthsLater (from_year : ℤ) (from_month from_day : ℕ) (months year : ℤ) (month day : ℕ) : Type 0 where
  pub month_is : month_number year month ≡ month_number from_year from_month +ℤ months
  pub day_is : day ≡ min from_day (days_in_month year month)

-- A result is the number of whole months from one date to another, or `None` if it does not fit.
-- Examples: from 2000-01-31 to 2000-02-29: `Some(1)`.
abbrev pub MatchMonthsBetween : ℤ → ℕ → ℕ → ℤ → ℕ → ℕ → Option ℤ → Type 0
MatchMonthsBetween year month day to_year to_month to_day answer = (from to : Date) × HasParts from year month day
    × HasParts to to_year to_month to_day × MatchOption answer
    ((months : ℤ) × IsMonthsBetween from to months × ¬ (FitsSigned w64 months)) (IsMonthsBetween from to)

-- A result is the number of whole years from one date to another, or `None` if it does not fit.
-- Examples: from 2000-02-29 to 2001-02-28: `Some(1)`.
abbrev pub MatchYearsBetween : ℤ → ℕ → ℕ → ℤ → ℕ → ℕ → Option ℤ → Type 0
MatchYearsBetween year month day to_year to_month to_day answer = (from to : Date) × HasParts from year month day
    × HasParts to to_year to_month to_day × MatchOption answer
    ((years : ℤ) × IsYearsBetween from to years × ¬ (FitsSigned w64 years)) (IsYearsBetween from to)

-- The week has a day of the week of this ISO number, and no year of an `i64` has that day.
-- Examples: 9223372036854775807, 53 and 7; not 9223372036854775807, 53 and 4, which is the last day of that year.
pub record IsDayBeyond (year : ℤ) (week weekday : ℕ) : Type 0 where
  pub day : ℤ
  pub day_of_week : Weekday
  pub number : iso_number day_of_week ≡ weekday
  pub of_week : IsDayOfIsoWeek day year week day_of_week
  pub beyond : (y : ℤ) → HasDay y day → ¬ (FitsSigned w64 y)

-- The parts are those of a date with a property of its day of the week, which has this ISO number.
-- Examples: 2026, 10 and 30 with 5 and 'is the last Friday of 2026-10'; not 2026, 10 and 30 with 6.
pub record IsOfIsoNumber (weekday : ℕ) (Is : Weekday → Date → Type 0) (year : ℤ) (month day : ℕ) : Type 0 where
  pub day_of_week : Weekday
  pub number : iso_number day_of_week ≡ weekday
  pub date : Date
  pub parts : HasParts date year month day
  pub holds : Is day_of_week date

-- The date is the n-th of the month whose day of the week has this ISO number.
-- Examples: 2026, 11, 4 and 4: 2026-11-26; none for 2026, 11, 4 and 5.
abbrev pub IsNthOfIsoNumber : ℤ → ℕ → ℕ → ℕ → ℤ → ℕ → ℕ → Type 0
IsNthOfIsoNumber year month weekday n y m d = IsOfIsoNumber weekday (λ w date. IsNthWeekday year month w n date) y m d

-- The date is the last of the month whose day of the week has this ISO number.
-- Examples: 2026, 10 and 5: 2026-10-30; not 2026-10-23.
abbrev pub IsLastOfIsoNumber : ℤ → ℕ → ℕ → ℤ → ℕ → ℕ → Type 0
IsLastOfIsoNumber year month weekday y m d = IsOfIsoNumber weekday (λ w date. IsLastWeekdayOfMonth year month w date) y m d

-- ---- days near another

-- A day has a property of the day of the week of this ISO number.
-- Examples: 3 and 7, with 'is the first Sunday from 0 on'; not 3 and 6.
abbrev pub IsDayOfIsoNumber : ℕ → (Weekday → ℤ → Type 0) → ℤ → Type 0
IsDayOfIsoNumber weekday Is day = (w : Weekday) × (iso_number w ≡ weekday) × Is w day
