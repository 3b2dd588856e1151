-- Dates in their order, and their days.
use Rattle.std.proofs.lemmas.List.Sums.{sum_by-take-le, sum_by_more}
use Rattle.calendar.proofs.Common.{◌≡◌, ◌⊎◌, ◌+◌, ◌-◌, ◌<◌, ◌≤◌, ◌<ℤ◌, ◌+ℤ◌, ℕ, ℤ, pos, List, length, take, sum, slice_index, ap, arith, inl, inr, sym, ints, to_z-of_z, take-take, linear, props, is_prop→PathP, Date, HasParts, IsEarlier, IsLastOfMonth, number_of, IsDate, days_before_month, days_in_month, months_of, day_number, first_day}
use Rattle.calendar.specs.Years.{days_in_year}
use Rattle.calendar.proofs.YearLengths.{later_year, next_first_day}
use Rattle.calendar.specs.Laws as law

-- ---- months

-- each month ends before the later ones begin
month_end : (ms : List ℕ) (i j : ℕ) → i < j → j ≤ length ms → sum (take i ms) + slice_index ms i ≤ sum (take j ms)
month_end ms i j before within =
    let part = rw (take-take (i + 1) j ms (omega arith)) at (sum_by-take-le {X = ℕ} (λ x. x) (take j ms) (i + 1)) in
    omega (arith, sum_by_more {X = ℕ} (λ x. x) ms i 0 (omega arith), part)

-- The day of a date in its year is from 1 to the length of the year.
pub year_day_range : {year : ℤ} {month day : ℕ} → IsDate year month day
    → (1 ≤ days_before_month year month + day) × (days_before_month year month + day ≤ days_in_year year)
unfolding days_in_year
year_day_range {year} {month} {day} h = grind arith

-- the first day of the next month, and that of the next year, come after the last day of a month
pub next_month : (year : ℤ) (month : ℕ) → 1 ≤ month → month < 12
    → day_number year (month + 1) 1 ≡ day_number year month (days_in_month year month) +ℤ pos 1
next_month year month from below =
    let next : month - 1 + 1 ≡ month + 1 - 1 = omega arith in
    let part = rw next at (sum_by_more {X = ℕ} (λ x. x) (months_of year) (month - 1) 0 (omega arith)) in
    omega ints

-- what a function's goals about the end of a month need
pub ruleset month_ends = (ints, to_z-of_z, next_month)

pub next_year : (year : ℤ) → day_number (year +ℤ pos 1) 1 1 ≡ day_number year 12 31 +ℤ pos 1
unfolding days_in_year
next_year year = omega (ints, next_first_day year, sum_by_more {X = ℕ} (λ x. x) (months_of year) 11 0 (omega arith))

-- the last day of a year is 31 December
pub last_of_year : {year : ℤ} {month day : ℕ} → IsDate year month day → 12 ≤ month → days_in_month year month ≤ day → (month ≡ 12) × (day ≡ 31)
last_of_year {year} {month} h from last = grind arith

-- ---- the order

-- an earlier date has a lesser number
earlier_is_less : (a b : Date) → IsEarlier a b → number_of a <ℤ number_of b
earlier_is_less a b (inl years) =
    omega (ints, year_day_range a.valid, year_day_range b.valid, next_first_day a.year, later_year a.year b.year years)
earlier_is_less a b (inr (same, inl months)) =
    rw (sym same) (grind (ints, a.valid, b.valid, month_end (months_of a.year) (a.month - 1) (b.month - 1)))
earlier_is_less a b (inr (same, inr (month, days))) = rw (same, month) (omega ints)

-- dates of the same parts are the same
pub of_parts : (a b : Date) → a.year ≡ b.year → a.month ≡ b.month → a.day_of_month ≡ b.day_of_month → a ≡ b
of_parts a b year month day = λ i. record {
  year = year i;
  month = month i;
  day_of_month = day i;
  valid = is_prop→PathP (λ i. IsDate (year i) (month i) (day i)) (λ i. hlevel props) a.valid b.valid i;
}

-- of two dates one is earlier, if they are not the same
compared : (a b : Date) → IsEarlier a b ⊎ IsEarlier b a ⊎ (a ≡ b)
compared a b = grind (linear, of_parts a b)

pub only_of_parts : law.DateOfPartsIsOnly
only_of_parts year month day a b h k = grind (arith, of_parts a b)

-- and so are dates of one number
pub only_date : law.DateIsOnly
only_date a b equal = grind (linear, compared a b, earlier_is_less a b, earlier_is_less b a)

-- and dates of one day of a year
pub only_of_year_day : law.DateOfYearDayIsOnly
only_of_year_day a b year day = only_date a b (omega (linear, ap first_day year, ap pos day))

-- the order of dates is that of their numbers
pub order : law.OrderOfDates
order a b = (earlier_is_less a b, λ less. grind (linear, compared a b, earlier_is_less b a))

-- ---- the last date of a month

pub last_of_month : {year : ℤ} {month : ℕ} (date : Date) → HasParts date year month (days_in_month year month) → IsLastOfMonth year month date
last_of_month date h = record {
  year_is = h.year_is;
  month_is = h.month_is;
  last = λ other years months. grind (ints, other.valid);
}

-- of which there is only one
pub only_last_of_month : law.LastOfMonthIsOnly
only_last_of_month year month a b h k = only_date a b (grind (ints, h.last b, k.last a))
