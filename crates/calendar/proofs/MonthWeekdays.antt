-- The days of a month that have a given day of the week.
use Rattle.calendar.proofs.Common.{◌≡◌, ◌↔◌, ◌+◌, ◌-◌, ◌*◌, ◌<◌, ◌≤◌, ◌+ℤ◌, ◌-ℤ◌, ◌*ℤ◌, ℕ, ℤ, pos, negsuc, MatchOption, Option, Some, None, arith, refl, ints, IsSome, Date, Weekday, HasFifthWeekday, HasParts, IsLastWeekdayOfMonth, IsNthWeekday, number_of, LastWeekdayOfMonthIsOnly, NthWeekdayIsOnly, IsDate, days_in_month, HasWeekday, day_number}
use Rattle.calendar.proofs.DateOrder.{only_date}
use Rattle.calendar.proofs.FoundOrBeyond.{is_found}
use Rattle.calendar.proofs.MonthLengths.{date_of, month_length_range}
use Rattle.calendar.proofs.WeekdayPlaces.{same_day, weekday_within, weeks_apart}

-- the dates of a month follow each other
in_month : (a b : Date) {year : ℤ} {month : ℕ} → (a.year ≡ year) × (a.month ≡ month) → (b.year ≡ year) × (b.month ≡ month)
    → number_of a +ℤ pos b.day_of_month ≡ number_of b +ℤ pos a.day_of_month
in_month a b h k = rw (h.0, h.1, k.0, k.1) (omega ints)

-- the n-th such day of a month, by the first
pub nth_weekday : (o : Option Date) {year : ℤ} {month : ℕ} {weekday : Weekday} {n days day : ℕ} (first : Date) → HasParts first year month 1
    → HasWeekday (number_of first +ℤ pos days) weekday → days < 7
    → 1 ≤ n → day ≡ 7 * (n - 1) + days + 1 → MatchOption o (¬ (IsDate year month day)) (λ date. HasParts date year month day)
    → MatchOption o ((date : Date) → ¬ (IsNthWeekday year month weekday n date)) (λ date. IsNthWeekday year month weekday n date)
nth_weekday None {weekday = weekday} {n = n} {day = day} first parts h small from place none = λ date k.
    let apart = in_month date first (k.year_is, k.month_is) (parts.year_is, parts.month_is) in
    let same : date.day_of_month ≡ day = omega ints in
    none (rw (k.year_is, k.month_is, same) at date.valid)
nth_weekday (Some date) {n = n} first parts h small from place found =
    let apart = in_month date first (found.year_is, found.month_is) (parts.year_is, parts.month_is) in
    let own = weeks_apart {other = number_of date} (pos (n - 1)) (omega ints) h in
    grind arith

-- there is at most one
pub only_nth_weekday : NthWeekdayIsOnly
only_nth_weekday year month weekday n a b h k = grind (ints, in_month a b, only_date a b, same_day weekday h.has_weekday k.has_weekday)

-- each month has a first day
pub first_of_month : (year : ℤ) (month : ℕ) → 1 ≤ month → month ≤ 12 → IsDate year month 1
first_of_month year month from to = record { month_from_one = from; month_to_twelve = to; day_from_one = omega arith; day_to_last = omega (arith, (month_length_range year month from to).0) }

-- Each month has a first, a second, a third and a fourth of each day of the week.
pub nth_weekday_exists : (year : ℤ) (month : ℕ) (weekday : Weekday) (n : ℕ) → 1 ≤ month → month ≤ 12 → 1 ≤ n → n ≤ 4
    → (date : Date) × IsNthWeekday year month weekday n date
nth_weekday_exists year month weekday n from to n_from n_to =
    let (length, most) = month_length_range year month from to in
    let (days, small, has_weekday) = weekday_within (day_number year month 1) weekday in
    let date : Date = date_of year month (7 * (n - 1) + days + 1) from to (omega arith) (omega arith) in
    let own = weeks_apart {other = number_of date} (pos (n - 1)) (omega ints) has_weekday in
    (date, grind arith)

-- a fifth is 28 days after such a day
fifth_weekday : {year : ℤ} {month : ℕ} {weekday : Weekday} → 1 ≤ month → month ≤ 12 → HasFifthWeekday year month weekday
    → (date : Date) × IsNthWeekday year month weekday 5 date
fifth_weekday {year} {month} from to h =
    let (least, most) = month_length_range year month from to in
    let date : Date = date_of year month (h.day + 28) from to (omega arith) h.before_four_weeks in
    let own = weeks_apart {other = number_of date} (pos 4) (omega ints) h.has_weekday in
    (date, grind arith)

has_fifth : (date : Date) {year : ℤ} {month : ℕ} {weekday : Weekday} → IsNthWeekday year month weekday 5 date → HasFifthWeekday year month weekday
has_fifth date {year} {month} k =
    let before : day_number year month (date.day_of_month - 28) ≡ number_of date +ℤ pos 7 *ℤ negsuc 3 =
    rw (k.year_is, k.month_is) (omega (ints, k.after_weeks)) in
    let own = weeks_apart (negsuc 3) before k.has_weekday in
    grind arith

pub fifth_is_found : (year : ℤ) (month : ℕ) (weekday : Weekday) (o : Option Date)
    → MatchOption o ((date : Date) → ¬ (IsNthWeekday year month weekday 5 date)) (λ date. IsNthWeekday year month weekday 5 date)
    → 1 ≤ month → month ≤ 12 → IsSome o ↔ HasFifthWeekday year month weekday
fifth_is_found year month weekday None none from to =
    (λ some. absurd (cc), λ h. is_found (IsNthWeekday year month weekday 5) None (fifth_weekday from to h) none)
fifth_is_found year month weekday (Some date) found from to = (λ some. has_fifth date found, λ h. refl)

-- ---- the last of them

-- such a day less than a week before the end of the month is the last
pub in_last_week : {year : ℤ} {month : ℕ} {weekday : Weekday} (date : Date) (length n : ℕ) → HasParts date year month (length - n)
    → length ≡ days_in_month year month
    → HasWeekday (day_number year month length -ℤ pos n) weekday → n < 7 → IsLastWeekdayOfMonth year month weekday date
in_last_week {year} {month} {weekday} date length n parts is h small =
    let same : day_number year month length -ℤ pos n ≡ number_of date =
    rw (parts.year_is, parts.month_is, parts.day_is) (omega (ints, date.valid.day_from_one, parts.day_is)) in
    let has_weekday = rw same at h in
    record {
      of_month = record { year_is = parts.year_is; month_is = parts.month_is; has_weekday = has_weekday };
      last = λ other k.
          let apart = in_month other date (k.year_is, k.month_is) (parts.year_is, parts.month_is) in
          let to = rw (k.year_is, k.month_is) at other.valid.day_to_last in
          grind (ints, same_day weekday has_weekday k.has_weekday);
    }

-- Each month has a last of each day of the week.
pub last_weekday_exists : (year : ℤ) (month : ℕ) (weekday : Weekday) → 1 ≤ month → month ≤ 12
    → (date : Date) × IsLastWeekdayOfMonth year month weekday date
last_weekday_exists year month weekday from to =
    let (least, most) = month_length_range year month from to in
    let length : ℕ = days_in_month year month in
    let (days, small, has_weekday) = weekday_within (day_number year month length -ℤ pos 6) weekday in
    let date : Date = date_of year month (length - (6 - days)) from to (omega arith) (omega arith) in
    let place : day_number year month length -ℤ pos 6 +ℤ pos days ≡ day_number year month length -ℤ pos (6 - days) = omega ints in
    (date, in_last_week {year = year} {month = month} date length (6 - days) (record { year_is = refl; month_is = refl; day_is = refl }) refl (rw place at has_weekday) (omega arith))

-- that of the month of a date
pub last_in_month : (date : Date) (weekday : Weekday) → (last : Date) × IsLastWeekdayOfMonth date.year date.month weekday last
last_in_month date weekday = last_weekday_exists date.year date.month weekday date.valid.month_from_one date.valid.month_to_twelve

pub only_last_of_month : LastWeekdayOfMonthIsOnly
only_last_of_month year month weekday a b h k = only_date a b (omega (ints, h.last b k.of_month, k.last a h.of_month))
