-- The weeks of ISO 8601.
use Rattle.std.proofs.Math.Logic.{∥∥₁_elim, ∥∥₁_prop}
use Rattle.calendar.proofs.Common.{◌≡◌, ◌+◌, ◌-◌, ◌*◌, ◌/◌, ◌%◌, ◌<◌, ◌≤◌, ◌≤ℤ◌, ◌<ℤ◌, ◌+ℤ◌, ◌-ℤ◌, ◌*ℤ◌, ℕ, ℤ, pos, FitsSigned, MatchOption, Option, Some, None, w64, ap, arith, refl, sym, ints, floored_by_range, floored_quotient_range, linear, IsFloored, IsQuotient, IsRemainder, props, is_prop→PathP, Date, number_of, HasIsoWeek, HasIsoWeeks, IsDayOfIsoWeek, IsInIsoWeek, IsThursdayOfWeek, IsWeeksAfter, IsoWeek, HasDay, days_in_year, first_day, weekday_number, HasWeekday, Weekday, Monday, Thursday}
use Rattle.calendar.proofs.DateOrder.{year_day_range}
use Rattle.calendar.proofs.WeekdayPlaces.{below_seven, days_earlier, days_later, on_weekday, same_day, weekday_within, weeks_apart}
use Rattle.calendar.proofs.YearLengths.{later_year, length_range, next_first_day}
use Rattle.calendar.specs.Laws as law

-- ---- Thursdays

pub same_thursday : {day a b : ℤ} → IsThursdayOfWeek day a → IsThursdayOfWeek day b → a ≡ b
same_thursday h k = grind (linear, same_day Thursday h.has_weekday k.has_weekday)

-- the days from 1 January to the Thursday of the week, by the days of an era
pub days_to_thursday : (date : Date) (era days : ℤ) (n january : ℕ) → number_of date ≡ pos 146097 *ℤ era +ℤ pos n -ℤ pos 865566
    → first_day date.year ≡ pos 146097 *ℤ era +ℤ pos january -ℤ pos 865565
    → days ≡ pos (n + 2 - (n + 1) % 7) -ℤ pos january
    → IsThursdayOfWeek (number_of date) (first_day date.year +ℤ days) × (pos 0 ≤ℤ (days +ℤ pos 6)) × (days <ℤ pos 372)
days_to_thursday date era days n january place first is =
    let range = year_day_range date.valid in
    let length = length_range date.year in
    let weeks : ℤ = pos 20871 *ℤ era -ℤ pos 123652 +ℤ pos ((n + 1) / 7) in
    let thursday : HasWeekday (first_day date.year +ℤ days) Thursday = on_weekday Thursday weeks (omega ints) in
    (record { has_weekday = thursday; from = omega ints; to = omega ints }, omega ints, omega ints)

pub to_thursday : {first : ℤ} (era : ℤ) (n : ℕ) → first ≡ pos 146097 *ℤ era +ℤ pos n -ℤ pos 865565
    → IsRemainder IsFloored (pos 0 -ℤ first) (pos 7) (pos (6 - (n + 5) % 7))
to_thursday era n place =
    record { quotient = pos 123652 -ℤ pos 20871 *ℤ era -ℤ pos ((n + 5) / 7); division = floored_by_range (omega ints) (omega ints) (omega ints) }

-- ---- years

ordered : (x y : ℤ) → x ≤ℤ y → first_day x ≤ℤ first_day y
ordered x y up = grind (linear, later_year x y, next_first_day x)

-- a day before the first of a year is in an earlier year
pub earlier : {x year day : ℤ} → HasDay x day → day <ℤ first_day year → x <ℤ year
earlier {x} {year} h before = grind (linear, ordered year x)

-- and a day after the last in a later one
pub later : {x year day : ℤ} → HasDay x day → first_day (year +ℤ pos 1) ≤ℤ day → year <ℤ x
later {x} {year} h from = grind (linear, ordered (x +ℤ pos 1) (year +ℤ pos 1))

-- a day is in one year only
pub one_year : law.YearOfDayIsOnly
one_year day y z h k = grind (linear, later_year y z, later_year z y)

-- ---- weeks

-- the number of the week that has this Thursday
pub week_of : {day year thursday : ℤ} {days week : ℕ} → IsThursdayOfWeek day thursday → days < days_in_year year
    → first_day year +ℤ pos days ≡ thursday → week ≡ days / 7 + 1 → IsInIsoWeek day year week
week_of {year = year} {thursday = thursday} h within place number = grind (ints, next_first_day)

-- of which there is only one
pub one_week : law.IsoWeekIsOnly
one_week day y z v w h k =
    let thursday = same_thursday h.of_week k.of_week in
    let year = one_year _ y z h.of_year (rw (sym thursday) at k.of_year) in
    (year, omega (ints, h.from, h.before, k.from, k.before, thursday, ap first_day year))

-- a week is one of 53
pub week_range : law.WeeksOfAYear
week_range day year week h = grind (ints, length_range year, next_first_day year)

pub number_range : {year : ℤ} {week : ℕ} → ∥ HasIsoWeek year week ∥₁ → (1 ≤ week) × (week ≤ 53)
number_range {year} {week} h = ∥∥₁_elim h (hlevel props) (λ k. week_range k.day year week k.in_week)

-- weeks of the same year and number are the same
pub of_numbers : law.IsoWeekOfNumbersIsOnly
of_numbers a b years weeks = λ i. record {
  year = years i;
  week = weeks i;
  valid = is_prop→PathP (λ i. ∥ HasIsoWeek (years i) (weeks i) ∥₁) (λ i. ∥∥₁_prop) a.valid b.valid i;
}

-- the days of an earlier week are before those of a later one
pub ordered_weeks : law.OrderOfIsoWeeks
ordered_weeks a b y z v w h k less =
    let thursdays : h.thursday <ℤ k.thursday = grind (ints, later_year y z, ap first_day) in
    grind (linear, h.of_week.from, k.of_week.to, same_day Thursday h.of_week.has_weekday k.of_week.has_weekday)

-- each day of the week of another day
pub day_of_week : {day year : ℤ} {week : ℕ} (weekday : Weekday) (h : IsInIsoWeek day year week)
    → IsDayOfIsoWeek (h.thursday -ℤ pos 3 +ℤ pos ((weekday_number weekday + 6) % 7)) year week weekday
day_of_week weekday h =
    let monday : HasWeekday (h.thursday -ℤ pos 3) Monday = days_earlier 3 refl h.of_week.has_weekday refl in
    let own = days_later {b = weekday} ((weekday_number weekday + 6) % 7) refl monday (omega (arith, below_seven weekday)) in
    grind ints

pub iso_day_exists : law.IsoDayExists
iso_day_exists year week weekday h = (_, day_of_week weekday h.in_week)

-- of which there is only one
pub one_day : law.IsoDayIsOnly
one_day a b year week weekday h k =
    let first = h.in_week.of_week in
    let second = k.in_week.of_week in
    same_day weekday h.has_weekday k.has_weekday (omega (ints, first.to, second.from)) (omega (ints, first.from, second.to))

-- a Thursday is that of its week
pub own_thursday : {day year : ℤ} {week : ℕ} (h : IsInIsoWeek day year week) → HasWeekday day Thursday → h.thursday ≡ day
own_thursday h thursday = grind (ints, same_day Thursday h.of_week.has_weekday thursday)

-- a day of the week by the days to the Thursday, and its date
by_thursday : {year day : ℤ} {week : ℕ} (place : ℕ) (weekday : Weekday) → IsDayOfIsoWeek (first_day year +ℤ pos place) year week Thursday
    → day ≡ first_day year +ℤ pos place -ℤ pos 3 +ℤ pos ((weekday_number weekday + 6) % 7) → IsDayOfIsoWeek day year week weekday
by_thursday {day = day} place weekday h is =
    let same : h.in_week.thursday -ℤ pos 3 +ℤ pos ((weekday_number weekday + 6) % 7) ≡ day = omega (ints, own_thursday h.in_week h.has_weekday) in
    rw same at (day_of_week weekday h.in_week)

pub day_or_none : (o : Option Date) {year given day : ℤ} {week : ℕ} (place : ℕ) (weekday : Weekday) → given ≡ year
    → IsDayOfIsoWeek (first_day given +ℤ pos place) given week Thursday
    → day ≡ first_day given +ℤ pos place -ℤ pos 3 +ℤ pos ((weekday_number weekday + 6) % 7)
    → MatchOption o ((y : ℤ) → HasDay y day → ¬ (FitsSigned w64 y)) (λ date. number_of date ≡ day)
    → MatchOption o ((d y : ℤ) → IsDayOfIsoWeek d year week weekday → HasDay y d → ¬ (FitsSigned w64 y)) (λ date. IsDayOfIsoWeek (number_of date) year week weekday)
day_or_none None place weekday same h is beyond =
    rw (sym same) (λ d y k l fits. beyond y (rw (one_day _ _ _ _ weekday k (by_thursday place weekday h is)) at l) fits)
day_or_none (Some date) place weekday same h is near = rw (sym same, near) (by_thursday place weekday h is)

-- the Thursday of a week, by the days to the first Thursday of the year
module _ {year : ℤ} {week first : ℕ} (place : ℕ) (h : IsRemainder IsFloored (pos 0 -ℤ first_day year) (pos 7) (pos first)) (small : first < 7)
    (is : place + 7 ≡ first + 7 * week) where
  -- if it is in the year
  pub thursday_in_year : place < days_in_year year → IsDayOfIsoWeek (first_day year +ℤ pos place) year week Thursday
  thursday_in_year inside =
      let own = on_weekday {day = first_day year +ℤ pos place} Thursday (pos week -ℤ pos 1 -ℤ h.quotient) (omega (ints, h.division)) in
      grind (ints, next_first_day)

  -- and if some day is in the week, it is
  pub within_year : {day : ℤ} → IsInIsoWeek day year week → place < days_in_year year
  within_year k = omega (ints, next_first_day year)

  -- of a week that the year has
  pub thursday_of_week : ∥ HasIsoWeek year week ∥₁ → (place < days_in_year year) × IsDayOfIsoWeek (first_day year +ℤ pos place) year week Thursday
  thursday_of_week k =
      let inside : place < days_in_year year = ∥∥₁_elim k (hlevel props) (λ own. within_year own.in_week) in
      (inside, thursday_in_year inside)

-- ---- the number of weeks of a year

-- 53, if the year has a week 53, and else 52
pub has_53_weeks : {year : ℤ} → HasIsoWeek year 53 → HasIsoWeeks year 53
has_53_weeks {year} h = record { day = h.day; in_last = h.in_week; no_later = λ other week k. (week_range other year week k).1 }

at_most_52 : {year : ℤ} → ¬ (HasIsoWeek year 53) → (other : ℤ) (week : ℕ) → IsInIsoWeek other year week → week ≤ 52
at_most_52 {year} none other week k = grind (arith, week_range other year week k)

pub has_52_weeks : {year : ℤ} → ¬ (HasIsoWeek year 53) → HasIsoWeeks year 52
has_52_weeks {year} none =
    let (days, small, h) = weekday_within (first_day year +ℤ pos 357) Thursday in
    let day : ℤ = first_day year +ℤ pos 357 +ℤ pos days in
    let thursday : IsThursdayOfWeek day day = record { has_weekday = h; from = omega ints; to = omega ints } in
    record {
      day = day;
      in_last = week_of {days = 357 + days} thursday (omega (arith, length_range year)) (omega ints) (omega arith);
      no_later = at_most_52 none;
    }

-- of which there is only one
pub one_number : law.IsoWeeksAreOnly
one_number year m n h k = grind (arith, h.no_later k.day n, k.no_later h.day m)

-- ---- weeks some weeks apart

-- all days of a week have one Thursday
one_thursday : {a b year : ℤ} {week : ℕ} (h : IsInIsoWeek a year week) (k : IsInIsoWeek b year week) → h.thursday ≡ k.thursday
one_thursday h k = same_day Thursday h.of_week.has_weekday k.of_week.has_weekday (omega (ints, h.before, k.from)) (omega (ints, h.from, k.before))

-- the Thursdays of two weeks are as many weeks apart
thursdays_apart : {day year other : ℤ} {week number : ℕ} (weeks : ℤ) (h : IsInIsoWeek day year week) (k : IsInIsoWeek (day +ℤ pos 7 *ℤ weeks) other number) → k.thursday ≡ h.thursday +ℤ pos 7 *ℤ weeks
thursdays_apart weeks h k = grind (ints, same_day Thursday k.of_week.has_weekday (weeks_apart weeks refl h.of_week.has_weekday))

-- and so are any two of their days that have one day of the week
pub later_week : {day year weeks y : ℤ} {week w : ℕ} → IsInIsoWeek day year week → IsWeeksAfter year week weeks y w
    → IsInIsoWeek (day +ℤ pos 7 *ℤ weeks) y w
later_week {weeks = weeks} h k = grind (ints, thursdays_apart weeks k.in_week k.in_later, one_thursday h k.in_week)

-- one week is so many weeks later
pub only_weeks_after : law.WeeksAfterIsOnly
only_weeks_after year week weeks y z v w h k = one_week _ y z v w h.in_later (later_week h.in_week k)

-- and it is so many weeks later alone
pub only_weeks_between : law.WeeksBetweenAreOnly
only_weeks_between year week a b y w h k =
    omega (ints, thursdays_apart a h.in_week h.in_later, thursdays_apart b k.in_week k.in_later, one_thursday h.in_week k.in_week, one_thursday h.in_later k.in_later)

-- the week of a day so many weeks later, if its year fits
pub week_or_none : (o : Option IsoWeek) {day later year : ℤ} {week : ℕ} (weeks : ℤ) → IsInIsoWeek day year week → later ≡ day +ℤ pos 7 *ℤ weeks
    → MatchOption o ((y : ℤ) (w : ℕ) → IsInIsoWeek later y w → ¬ (FitsSigned w64 y)) (λ found. IsInIsoWeek later found.year found.week)
    → MatchOption o ((y : ℤ) (w : ℕ) → IsWeeksAfter year week weeks y w → ¬ (FitsSigned w64 y)) (λ found. IsWeeksAfter year week weeks found.year found.week)
week_or_none None weeks h place beyond = λ y w k. beyond y w (rw place (later_week h k))
week_or_none (Some found) weeks h place near = record { day = _; in_week = h; in_later = rw place at near }

-- as many weeks as there are between the Thursdays
pub weeks_of_days : {a b year y days given weeks quotient : ℤ} {week w : ℕ} → IsDayOfIsoWeek a year week Thursday → IsDayOfIsoWeek b y w Thursday
    → days ≡ b -ℤ a → given ≡ days → weeks ≡ quotient
    → IsQuotient IsFloored given (pos 7) quotient → IsWeeksAfter year week weeks y w
weeks_of_days {a} {b} {weeks = weeks} h k apart same whole quotient =
    let range = floored_quotient_range quotient in
    let place : b ≡ a +ℤ pos 7 *ℤ weeks = omega (ints, h.has_weekday.remainder, k.has_weekday.remainder) in
    record { day = a; in_week = h.in_week; in_later = rw place at k.in_week }
