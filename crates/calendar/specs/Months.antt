-- The months and their lengths.
use Rattle.std.specs.Prelude.{◌≤◌, ◌-◌, ◌+ℤ◌, ◌-ℤ◌, ◌*ℤ◌, ℕ, ℤ, pos, Bool, if◌then◌else◌, List, [], ◌∷◌, take, sum, slice_index}
use Rattle.calendar.specs.LeapYears.{is_leap_year}

-- These are the lengths of the months, from January on, in a leap year or in another.
-- Examples: in a leap year 31, 29, 31 and so on; in another 31, 28, 31 and so on.
abbrev pub month_lengths : Bool → List ℕ
month_lengths leap = 31 ∷ (if leap then 29 else 28) ∷ 31 ∷ 30 ∷ 31 ∷ 30 ∷ 31 ∷ 31 ∷ 30 ∷ 31 ∷ 30 ∷ 31 ∷ []

-- These are the lengths of the months of the year.
-- Examples: 2000: 31, 29, 31 and so on; 1900: 31, 28, 31 and so on.
abbrev pub months_of : ℤ → List ℕ
months_of year = month_lengths (is_leap_year year)

-- This is the length of the month.
-- Examples: 2000 and 2: 29; 1900 and 2: 28; 2000 and 3: 31.
abbrev pub days_in_month : ℤ → ℕ → ℕ
days_in_month year month = slice_index (months_of year) (month - 1)

-- This is the sum of the lengths of the earlier months of the year.
-- Examples: 2000 and 2: 31; 2000 and 3: 60; 1900 and 3: 59.
abbrev pub days_before_month : ℤ → ℕ → ℕ
days_before_month year month = sum (take (month - 1) (months_of year))

-- The month is from 1 to 12, and the day from 1 to the length of the month.
-- Examples: 2000, 2, 29; not 1900, 2, 29; not 2000, 0, 1.
pub record IsDate (year : ℤ) (month day : ℕ) : Type 0 where
  pub month_from_one : 1 ≤ month
  pub month_to_twelve : month ≤ 12
  pub day_from_one : 1 ≤ day
  pub day_to_last : day ≤ days_in_month year month

-- This is the number of the month, counted from January of year 0.
-- Examples: 0 and 1: 0; 2000 and 2: 24001; -1 and 12: -1.
abbrev pub month_number : ℤ → ℕ → ℤ
month_number year month = pos 12 *ℤ year +ℤ pos month -ℤ pos 1
