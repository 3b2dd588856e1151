-- The lengths of the months, and the dates in them.
use Rattle.calendar.proofs.Common.{◌≤◌, ◌-◌, ℕ, ℤ, arith, All-get_or, Date, days_in_month, months_of}

-- A month has 28 to 31 days.
pub month_length_range : (year : ℤ) (month : ℕ) → 1 ≤ month → month ≤ 12 → (28 ≤ days_in_month year month) × (days_in_month year month ≤ 31)
month_length_range year month from to = All-get_or (λ days. (28 ≤ days) × (days ≤ 31)) (months_of year) (month - 1) 0 (omega arith) (grind arith)

-- the date of a day of a month
abbrev pub date_of : (year : ℤ) (month day : ℕ) → 1 ≤ month → month ≤ 12 → 1 ≤ day → day ≤ days_in_month year month → Date
date_of year month day from to first last = record {
  year = year;
  month = month;
  day_of_month = day;
  valid = record { month_from_one = from; month_to_twelve = to; day_from_one = first; day_to_last = last };
}
