-- The years and their days. Years are counted one by one from year 0, up and down, and days from 1970-01-01, which is day 0.
use Rattle.std.specs.Prelude.{◌+◌, ◌≤ℤ◌, ◌<ℤ◌, ◌+ℤ◌, ◌-ℤ◌, ℕ, zero, suc, ℤ, pos, negsuc, neg_ℤ, sum}
use Rattle.calendar.specs.Months.{days_before_month, months_of}

-- This is the sum of the lengths of the months of the year.
-- Examples: 2000: 366; 1900: 365; 0: 366.
unfoldable pub days_in_year : ℤ → ℕ
days_in_year year = sum (months_of year)

-- This is the number of days in the first n years from year 0 on.
-- Examples: 0: 0; 1: 366; 4: 1461.
unfoldable pub days_after : ℕ → ℕ
days_after zero = 0
days_after (suc n) = days_after n + days_in_year (pos n)

-- This is the number of days in the last n years before year 0.
-- Examples: 0: 0; 1: 365; 4: 1461.
unfoldable pub days_before : ℕ → ℕ
days_before zero = 0
days_before (suc n) = days_before n + days_in_year (negsuc n)

-- This is the first day of the year, counted from the beginning of year 0.
-- Examples: 0: 0; 1970: 719528; 2000: 730485.
abbrev pub beginning : ℤ → ℤ
beginning (pos n) = pos (days_after n)
beginning (negsuc n) = neg_ℤ (pos (days_before (suc n)))

-- This is the first day of the year, counted from 1970-01-01.
-- Examples: 1970: 0; 0: -719528; 2000: 10957.
abbrev pub first_day : ℤ → ℤ
first_day year = beginning year -ℤ beginning (pos 1970)

-- The day is in the year: it is from the first day of the year on, and before the first day of the next year.
-- Examples: 1970: 0 and 364; 1969: -1; not 1970: 365.
pub record HasDay (year day : ℤ) : Type 0 where
  pub from : first_day year ≤ℤ day
  pub before : day <ℤ first_day (year +ℤ pos 1)

-- This is the day number of a year, a month and a day of the month.
-- Examples: 1970, 1, 1: 0; 2000, 2, 29: 11016; 1969, 12, 31: -1.
abbrev pub day_number : ℤ → ℕ → ℕ → ℤ
day_number year month day = first_day year +ℤ pos (days_before_month year month + day) -ℤ pos 1
