-- The laws of the calendar. Each is proved in proofs/Laws.antt, by a lemma of its name in small letters.
use Rattle.std.specs.Prelude.{◌≡◌, ◌⊎◌, ◌↔◌, ◌<◌, ◌≤◌, ◌+◌, ◌*◌, ◌%◌, ◌<ℤ◌, ◌+ℤ◌, ℕ, ℤ, pos, FitsSigned, IsTrue, if◌then◌else◌}
use Rattle.std.specs.Int.{w64}
use Rattle.integer_core.specs.Divisors.{Divides}
use Rattle.calendar.specs.Dates.{HasParts, IsEarlier, IsLastOfMonth, IsLastWeekdayOfMonth, IsMonthsAfter, IsMonthsBetween, IsNextLastWeekday, IsNthWeekday, IsYearsBetween, number_of, year_day_of}
use Rattle.calendar.specs.IsoWeeks.{HasIsoWeek, HasIsoWeeks, IsDayOfIsoWeek, IsInIsoWeek, IsWeeksAfter}
use Rattle.calendar.specs.LeapYears.{is_leap_year}
use Rattle.calendar.specs.Years.{HasDay, day_number, days_in_year, first_day}
use Rattle.calendar.specs.Easter.{IsEaster, IsEpact, IsLunarCorrection, IsSolarCorrection, days_to_full_moon, is_day_earlier}
use Rattle.calendar.specs.Text.{text_of}
use Rattle.calendar.specs.Weekday.{iso_number, weekday_number}
use Rattle.calendar.specs.Weeks.{HasWeekday, IsFirstWeekday, IsLastWeekday, IsWeekdayAfter}
use Rattle.calendar.specs.declared.date.Date.{Date}
use Rattle.calendar.specs.declared.iso_weeks.IsoWeek.{IsoWeek}
use Rattle.calendar.specs.declared.weekday.Weekday.{Weekday}
use Rattle.calendar.specs.declared.weekday.Weekday.TheVariants.{Thursday}

-- ---- years

-- A year is a leap year exactly if 4 divides it and 100 does not, or if 4 and 400 divide it.
abbrev pub LeapYearsByDivisors : Type 0
LeapYearsByDivisors = (year : ℤ) → IsTrue (is_leap_year year) ↔ (Divides (pos 4) year × ((¬ (Divides (pos 100) year)) ⊎ Divides (pos 400) year))

-- A leap year has 366 days, and every other year 365.
abbrev pub LengthsOfYears : Type 0
LengthsOfYears = (year : ℤ) → days_in_year year ≡ (if is_leap_year year then 366 else 365)

-- The next year begins after the days of the year.
abbrev pub YearsFollow : Type 0
YearsFollow = (year : ℤ) → first_day (year +ℤ pos 1) ≡ first_day year +ℤ pos (days_in_year year)

-- 1970-01-01 is day 0.
abbrev pub FirstDay : Type 0
FirstDay = day_number (pos 1970) 1 1 ≡ pos 0

-- Each day is in a year.
abbrev pub YearOfDayExists : Type 0
YearOfDayExists = (day : ℤ) → (year : ℤ) × HasDay year day

-- Each day is in at most one year.
abbrev pub YearOfDayIsOnly : Type 0
YearOfDayIsOnly = (day y z : ℤ) → HasDay y day → HasDay z day → y ≡ z

-- ---- dates

-- At most one date has a given year, month and day of the month.
abbrev pub DateOfPartsIsOnly : Type 0
DateOfPartsIsOnly = (year : ℤ) (month day : ℕ) (a b : Date) → HasParts a year month day → HasParts b year month day → a ≡ b

-- Each day has a date. Its year may be any integer, and need not fit a type.
abbrev pub DateExists : Type 0
DateExists = (day : ℤ) → (date : Date) × (number_of date ≡ day)

-- Each day has at most one date.
abbrev pub DateIsOnly : Type 0
DateIsOnly = (a b : Date) → number_of a ≡ number_of b → a ≡ b

-- At most one date is a given day of a given year.
abbrev pub DateOfYearDayIsOnly : Type 0
DateOfYearDayIsOnly = (a b : Date) → a.year ≡ b.year → year_day_of a ≡ year_day_of b → a ≡ b

-- Dates are in the order of their days.
abbrev pub OrderOfDates : Type 0
OrderOfDates = (a b : Date) → IsEarlier a b ↔ (number_of a <ℤ number_of b)

-- Each string is that of at most one date.
abbrev pub TextIsOnly : Type 0
TextIsOnly = (a b : Date) → FitsSigned w64 a.year → FitsSigned w64 b.year → text_of a ≡ text_of b → a ≡ b

-- ---- months

-- Each date has a date any number of months later.
abbrev pub MonthsAfterExists : Type 0
MonthsAfterExists = (from : Date) (months : ℤ) → (date : Date) × IsMonthsAfter from months date

-- Each date has at most one date a number of months later.
abbrev pub MonthsAfterIsOnly : Type 0
MonthsAfterIsOnly = (from : Date) (months : ℤ) (a b : Date) → IsMonthsAfter from months a → IsMonthsAfter from months b → a ≡ b

-- Each month has at most one n-th day of each day of the week.
abbrev pub NthWeekdayIsOnly : Type 0
NthWeekdayIsOnly = (year : ℤ) (month : ℕ) (weekday : Weekday) (n : ℕ) (a b : Date) → IsNthWeekday year month weekday n a → IsNthWeekday year month weekday n b → a ≡ b

-- From each date to each other there is at most one number of whole months.
abbrev pub MonthsBetweenIsOnly : Type 0
MonthsBetweenIsOnly = (from to : Date) (a b : ℤ) → IsMonthsBetween from to a → IsMonthsBetween from to b → a ≡ b

-- From each date to each other there is at most one number of whole years.
abbrev pub YearsBetweenIsOnly : Type 0
YearsBetweenIsOnly = (from to : Date) (a b : ℤ) → IsYearsBetween from to a → IsYearsBetween from to b → a ≡ b

-- Each month has at most one last day of each day of the week.
abbrev pub LastWeekdayOfMonthIsOnly : Type 0
LastWeekdayOfMonthIsOnly = (year : ℤ) (month : ℕ) (weekday : Weekday) (a b : Date) → IsLastWeekdayOfMonth year month weekday a → IsLastWeekdayOfMonth year month weekday b → a ≡ b

-- For each date and day of the week, some later date is the next that is the last such weekday of its month.
abbrev pub NextLastWeekdayExists : Type 0
NextLastWeekdayExists = (after : Date) (weekday : Weekday) → (date : Date) × IsNextLastWeekday after weekday date

-- For each date and day of the week, at most one later date is the next that is the last such weekday of its month.
abbrev pub NextLastWeekdayIsOnly : Type 0
NextLastWeekdayIsOnly = (after : Date) (weekday : Weekday) (a b : Date) → IsNextLastWeekday after weekday a → IsNextLastWeekday after weekday b → a ≡ b

-- Each month has at most one last day.
abbrev pub LastOfMonthIsOnly : Type 0
LastOfMonthIsOnly = (year : ℤ) (month : ℕ) (a b : Date) → IsLastOfMonth year month a → IsLastOfMonth year month b → a ≡ b

-- ---- weeks

-- Each ISO 8601 number is that of at most one day of the week.
abbrev pub IsoNumberIsOnly : Type 0
IsoNumberIsOnly = (a b : Weekday) → iso_number a ≡ iso_number b → a ≡ b

-- Each day has at most one day of the week.
abbrev pub WeekdayIsOnly : Type 0
WeekdayIsOnly = (day : ℤ) (a b : Weekday) → HasWeekday day a → HasWeekday day b → a ≡ b

-- At most one day of the week comes a number of days after another.
abbrev pub WeekdayAfterIsOnly : Type 0
WeekdayAfterIsOnly = (from : Weekday) (days : ℤ) (a b : Weekday) → IsWeekdayAfter from days a → IsWeekdayAfter from days b → a ≡ b

-- Day 0 is a Thursday, and the days of the week follow one another.
abbrev pub WeekdaysFollow : Type 0
WeekdaysFollow = HasWeekday (pos 0) Thursday × ((day : ℤ) (a b : Weekday) → HasWeekday day a → HasWeekday (day +ℤ pos 1) b → weekday_number b ≡ (weekday_number a + 1) % 7)

-- From each day on, some day is the first that has a given day of the week.
abbrev pub FirstWeekdayExists : Type 0
FirstWeekdayExists = (from : ℤ) (weekday : Weekday) → (day : ℤ) × IsFirstWeekday from weekday day

-- From each day on, at most one day is the first that has a given day of the week.
abbrev pub FirstWeekdayIsOnly : Type 0
FirstWeekdayIsOnly = (from : ℤ) (weekday : Weekday) (a b : ℤ) → IsFirstWeekday from weekday a → IsFirstWeekday from weekday b → a ≡ b

-- Up to each day, some day is the last that has a given day of the week.
abbrev pub LastWeekdayExists : Type 0
LastWeekdayExists = (to : ℤ) (weekday : Weekday) → (day : ℤ) × IsLastWeekday to weekday day

-- Up to each day, at most one day is the last that has a given day of the week.
abbrev pub LastWeekdayIsOnly : Type 0
LastWeekdayIsOnly = (to : ℤ) (weekday : Weekday) (a b : ℤ) → IsLastWeekday to weekday a → IsLastWeekday to weekday b → a ≡ b

-- Each day is in a week. The year of the week may be any integer.
abbrev pub IsoWeekExists : Type 0
IsoWeekExists = (day : ℤ) → (year : ℤ) × (week : ℕ) × IsInIsoWeek day year week

-- Each day is in at most one week, of one year.
abbrev pub IsoWeekIsOnly : Type 0
IsoWeekIsOnly = (day y z : ℤ) (v w : ℕ) → IsInIsoWeek day y v → IsInIsoWeek day z w → (y ≡ z) × (v ≡ w)

-- At most one `IsoWeek` has a given year and a given number of the week.
abbrev pub IsoWeekOfNumbersIsOnly : Type 0
IsoWeekOfNumbersIsOnly = (a b : IsoWeek) → a.year ≡ b.year → a.week ≡ b.week → a ≡ b

-- Each week has each day of the week.
abbrev pub IsoDayExists : Type 0
IsoDayExists = (year : ℤ) (week : ℕ) (weekday : Weekday) → HasIsoWeek year week → (day : ℤ) × IsDayOfIsoWeek day year week weekday

-- Each week has at most one day of each day of the week.
abbrev pub IsoDayIsOnly : Type 0
IsoDayIsOnly = (a b year : ℤ) (week : ℕ) (weekday : Weekday) → IsDayOfIsoWeek a year week weekday → IsDayOfIsoWeek b year week weekday → a ≡ b

-- Each week of a year is one of the first 53.
abbrev pub WeeksOfAYear : Type 0
WeeksOfAYear = (day year : ℤ) (week : ℕ) → IsInIsoWeek day year week → (1 ≤ week) × (week ≤ 53)

-- Each year has at most one number of weeks.
abbrev pub IsoWeeksAreOnly : Type 0
IsoWeeksAreOnly = (year : ℤ) (m n : ℕ) → HasIsoWeeks year m → HasIsoWeeks year n → m ≡ n

-- The days of an earlier week are before those of a later one.
abbrev pub OrderOfIsoWeeks : Type 0
OrderOfIsoWeeks = (a b y z : ℤ) (v w : ℕ) → IsInIsoWeek a y v → IsInIsoWeek b z w → (y <ℤ z) ⊎ ((y ≡ z) × (v < w)) → a <ℤ b

-- Each week has a week any number of weeks later.
abbrev pub WeeksAfterExists : Type 0
WeeksAfterExists = (year : ℤ) (week : ℕ) (weeks : ℤ) → HasIsoWeek year week → (y : ℤ) × (w : ℕ) × IsWeeksAfter year week weeks y w

-- At most one week is a number of weeks after another.
abbrev pub WeeksAfterIsOnly : Type 0
WeeksAfterIsOnly = (year : ℤ) (week : ℕ) (weeks y z : ℤ) (v w : ℕ) → IsWeeksAfter year week weeks y v → IsWeeksAfter year week weeks z w → (y ≡ z) × (v ≡ w)

-- From each week to each other there is at most one number of weeks.
abbrev pub WeeksBetweenAreOnly : Type 0
WeeksBetweenAreOnly = (year : ℤ) (week : ℕ) (a b y : ℤ) (w : ℕ) → IsWeeksAfter year week a y w → IsWeeksAfter year week b y w → a ≡ b

-- ---- Easter

-- Each year has at most one day of Easter.
abbrev pub EasterIsOnly : Type 0
EasterIsOnly = (year a b : ℤ) → IsEaster year a → IsEaster year b → a ≡ b

-- In each century the nineteen golden numbers have nineteen different full moons, from 21 March to 18 April.
abbrev pub FullMoonsDiffer : Type 0
FullMoonsDiffer = (century : ℤ) (golden other epact other_epact : ℕ) → golden < 19 → other < 19 → IsEpact century golden epact → IsEpact century other other_epact
    → (days_to_full_moon epact golden ≤ 28) × (days_to_full_moon epact golden ≡ days_to_full_moon other_epact other → golden ≡ other)

-- The full moon is a day earlier at the epact 24, and at 25 in the centuries that have the epact 24 too.
abbrev pub EarlierFullMoons : Type 0
EarlierFullMoons = (century : ℤ) (golden epact : ℕ) → golden < 19 → IsEpact century golden epact
    → IsTrue (is_day_earlier epact golden) ↔ ((epact ≡ 24) ⊎ ((epact ≡ 25) × ((other : ℕ) × (other < 19) × IsEpact century other 24)))

-- The first golden number has the epact 1 in the years 1500 to 1699.
abbrev pub EpactOfTheFirstYear : Type 0
EpactOfTheFirstYear = IsEpact (pos 15) 0 1 × IsEpact (pos 16) 0 1

-- The epact of the next golden number is 11 more, modulo 30.
abbrev pub EpactOfTheNextYear : Type 0
EpactOfTheNextYear = (century : ℤ) (golden epact : ℕ) → IsEpact century golden epact → IsEpact century (golden + 1) ((epact + 11) % 30)

-- The solar correction is the same in the next century if 4 divides that century, and otherwise 1 more.
abbrev pub SolarCorrectionOfTheNextCentury : Type 0
SolarCorrectionOfTheNextCentury = (century days : ℤ) → IsSolarCorrection century days
    → (Divides (pos 4) (century +ℤ pos 1) → IsSolarCorrection (century +ℤ pos 1) days)
    × ((¬ (Divides (pos 4) (century +ℤ pos 1))) → IsSolarCorrection (century +ℤ pos 1) (days +ℤ pos 1))

-- The lunar correction is 6 in the three centuries from 1800 on, 7 in the next three, and so on, and 13 in four.
abbrev pub LunarCorrectionsFrom1800 : Type 0
LunarCorrectionsFrom1800 = (step place : ℕ) → step ≤ 7 → (place < 3) ⊎ ((step ≡ 7) × (place ≡ 3)) → IsLunarCorrection (pos (18 + 3 * step + place)) (pos (6 + step))

-- The lunar correction grows by 8 in 25 centuries.
abbrev pub LunarCorrectionOfTwentyFiveCenturies : Type 0
LunarCorrectionOfTwentyFiveCenturies = (century days : ℤ) → IsLunarCorrection century days → IsLunarCorrection (century +ℤ pos 25) (days +ℤ pos 8)
