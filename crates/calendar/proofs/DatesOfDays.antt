-- Each day has a date, and is in a year and in a week.
use Rattle.calendar.proofs.Common.{◌≡◌, ◌+◌, ◌*◌, ◌/◌, ◌≤◌, ◌+ℤ◌, ◌-ℤ◌, ◌*ℤ◌, ℕ, zero, suc, ℤ, pos, negsuc, unsigned_abs, FitsSigned, MatchOption, Option, Some, None, w64, ◌∙◌, arith, inl, inr, le_refl, refl, subst, sym, cases_lt, ints, IfSome, IsSome, Date, Thursday, number_of, days_in_month, HasDay, IsDayOfIsoWeek, IsWeeksAfter, day_number, first_day}
use Rattle.calendar.proofs.DateOrder.{last_of_year, next_month, next_year, year_day_range}
use Rattle.calendar.proofs.LaterEras.{later, number_later}
use Rattle.calendar.proofs.MonthLengths.{date_of, month_length_range}
use Rattle.calendar.proofs.IsoWeeks.{later_week, one_year, own_thursday}
use Rattle.calendar.proofs.WeekdayPlaces.{weekday_within, weeks_apart}
use Rattle.calendar.proofs.YearLengths.{next_first_day}
use Rattle.calendar.specs.Laws as law

-- ---- the date of a day

-- the first day of a month is a date
month_begins : (year : ℤ) (month : ℕ) → 1 ≤ month → month ≤ 12 → (date : Date) × (number_of date ≡ day_number year month 1)
month_begins year month from to =
    (date_of year month 1 from to (le_refl 1) (omega (arith, month_length_range year month from to)), refl)

-- each date has a next one
next_date : (date : Date) → (next : Date) × (number_of next ≡ number_of date +ℤ pos 1)
next_date date = elim (cases_lt date.day_of_month (days_in_month date.year date.month)) [
  | inl before ↦ (date_of date.year date.month (date.day_of_month + 1) date.valid.month_from_one date.valid.month_to_twelve (omega arith) (omega arith), omega ints)
  | inr last ↦ elim (cases_lt date.month 12) [
    | inl early ↦
        let (next, is) = month_begins date.year (date.month + 1) (omega arith) (omega arith) in
        let end : date.day_of_month ≡ days_in_month date.year date.month = omega (arith, date.valid.day_to_last) in
        (next, omega (ints, is, end, next_month date.year date.month date.valid.month_from_one early))
    | inr late ↦
        let (next, is) = month_begins (date.year +ℤ pos 1) 1 (omega arith) (omega arith) in
        (next, grind (arith, last_of_year date.valid late last, next_year date.year))
  ]
]

-- so each day from 1970-01-01 on has a date
date_from_epoch : (n : ℕ) → (date : Date) × (number_of date ≡ pos n)
date_from_epoch zero =
    let (date, is) = month_begins (pos 1970) 1 (omega arith) (omega arith) in
    (date, omega (ints, is))
date_from_epoch (suc n) =
    let (date, is) = date_from_epoch n in
    let (next, after) = next_date date in
    (next, omega (ints, is, after))

-- and an earlier day has that of a later one, some eras before
pub date_exists : law.DateExists
date_exists (pos n) = date_from_epoch n
date_exists (negsuc n) =
    let (date, is) = date_from_epoch (146096 * (n + 1)) in
    (later date (negsuc n), omega (ints, is, number_later date (negsuc n)))

-- a date of the day, or none if no such date fits
abbrev pub IsDateOfDay : Option Date → ℤ → Type 0
IsDateOfDay o day = MatchOption o ((date : Date) → number_of date ≡ day → ¬ (FitsSigned w64 date.year)) (λ date. number_of date ≡ day)

-- the same day, and the same result
pub same_day_found : (o : Option Date) {day other : ℤ} → day ≡ other → IsDateOfDay o other → IsDateOfDay o day
same_day_found o same h = rw same h

-- if the date of a day fits, a call that returns it returns it
pub some_date : (o : Option Date) {day other : ℤ} → day ≡ other → IsDateOfDay o other
    → ((date : Date) → number_of date ≡ day → FitsSigned w64 date.year) → IsSome o
some_date None {day = day} same beyond fits = let (date, is) = date_exists day in absurd (beyond date (is ∙ same) (fits date is))
some_date (Some date) same own fits = refl

pub this_date : (o : Option Date) (date : Date) {day other : ℤ} → day ≡ other → IsDateOfDay o other
    → ((date : Date) → number_of date ≡ day → FitsSigned w64 date.year) → IfSome o (λ found. found ≡ date) → number_of date ≡ day
this_date o date same own fits is = grind (arith, some_date o same own fits)

-- ---- its year

-- A date is in its year.
pub in_its_year : (date : Date) → HasDay date.year (number_of date)
in_its_year date = grind (ints, year_day_range date.valid, next_first_day date.year)

pub year_of_day_exists : law.YearOfDayExists
year_of_day_exists day =
    let (date, is) = date_exists day in
    (date.year, subst (HasDay date.year) is (in_its_year date))

-- ---- its week

-- that of the Thursday that is at most three days away
pub iso_week_exists : law.IsoWeekExists
iso_week_exists day =
    let (days, small, has_weekday) = weekday_within (day -ℤ pos 3) Thursday in
    let thursday : ℤ = day -ℤ pos 3 +ℤ pos days in
    let (year, of_year) = year_of_day_exists thursday in
    let place : ℕ = unsigned_abs (thursday -ℤ first_day year) in
    let from : thursday ≡ first_day year +ℤ pos place = omega (ints, of_year.from) in (
      year,
      place / 7 + 1,
      record {
        thursday = thursday;
        of_week = record { has_weekday = has_weekday; from = omega ints; to = omega ints };
        of_year = of_year;
        from = omega ints;
        before = omega ints;
      },
    )

-- ---- a week some weeks later

pub weeks_after_exist : law.WeeksAfterExists
weeks_after_exist year week weeks h =
    let (y, w, later) = iso_week_exists (h.day +ℤ pos 7 *ℤ weeks) in
    (y, w, record { day = h.day; in_week = h.in_week; in_later = later })

-- its year is that of its Thursday
pub weeks_beyond : {thursday year day : ℤ} {week : ℕ} (weeks : ℤ) → IsDayOfIsoWeek thursday year week Thursday → day ≡ thursday +ℤ pos 7 *ℤ weeks
    → ((date : Date) → number_of date ≡ day → ¬ (FitsSigned w64 date.year)) → (y : ℤ) (w : ℕ) → IsWeeksAfter year week weeks y w
    → ¬ (FitsSigned w64 y)
weeks_beyond {day = day} weeks h place beyond y w k fits =
    let (date, is) = date_exists day in
    let own = later_week h.in_week k in
    let thursday = own_thursday own (weeks_apart weeks refl h.has_weekday) ∙ sym place in
    let year : date.year ≡ y = one_year day _ _ (subst (HasDay date.year) is (in_its_year date)) (subst (HasDay y) thursday own.of_year) in
    beyond date is (rw year fits)
