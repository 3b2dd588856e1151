-- The date of Easter by the tables of Clavius for the Gregorian calendar.
use Rattle.std.specs.Prelude.{◌≡◌, ◌-◌, ◌%◌, ◌+ℤ◌, ◌-ℤ◌, ◌*ℤ◌, ℕ, ℤ, pos, Bool, ◌&&◌, ◌||◌, nat_eq, nat_lt, if◌then◌else◌}
use Rattle.integer_core.specs.Division.{IsFloored, IsQuotient, IsRemainder}
use Rattle.calendar.specs.Weeks.{IsFirstWeekday}
use Rattle.calendar.specs.Years.{day_number}
use Rattle.calendar.specs.declared.weekday.Weekday.TheVariants.{Sunday}

-- This is the golden number of the year, minus 1. It is the place of the year in the moon's cycle of 19 years.
-- Examples: 2024: 10; 1900: 0; -1: 18.
abbrev pub IsGolden : ℤ → ℕ → Type 0
IsGolden year golden = IsRemainder IsFloored year (pos 19) (pos golden)

-- This is the century of the year. The years 0 to 99 are in century 0.
-- Examples: 2024: 20; 1999: 19; -1: -1.
abbrev pub IsCentury : ℤ → ℤ → Type 0
IsCentury year century = IsQuotient IsFloored year (pos 100) century

-- This is the number of leap days that the calendar has dropped: those of the multiples of 100 that are not multiples of 400.
-- Examples: 20: 15; 19: 15; 18: 14.
pub record IsSolarCorrection (century days : ℤ) : Type 0 where
  pub leap_centuries : ℤ
  pub leap_centuries_is : IsQuotient IsFloored century (pos 4) leap_centuries
  pub days_is : days ≡ century -ℤ leap_centuries

-- This is the number of days that the moon gains on its cycle of 19 years: 8 in 2500 years.
-- Examples: 20: 6; 17: 5; -1: 0.
abbrev pub IsLunarCorrection : ℤ → ℤ → Type 0
IsLunarCorrection century days = IsQuotient IsFloored (pos 8 *ℤ century +ℤ pos 13) (pos 25) days

-- This is the epact, the age of the moon on 1 January, by century and golden number.
-- Examples: 20 and 10: 19; 20 and 0: 29; 19 and 5: 24.
pub record IsEpact (century : ℤ) (golden epact : ℕ) : Type 0 where
  pub solar : ℤ
  pub lunar : ℤ
  pub solar_is : IsSolarCorrection century solar
  pub lunar_is : IsLunarCorrection century lunar
  pub epact_is : IsRemainder IsFloored (pos 11 *ℤ pos golden +ℤ pos 8 -ℤ solar +ℤ lunar) (pos 30) (pos epact)

-- The table has the full moon a day earlier: at epact 24, and at 25 if the golden number is greater than 11.
-- Examples: 24 and 5: true; 25 and 16: true; 25 and 5: false.
abbrev pub is_day_earlier : ℕ → ℕ → Bool
is_day_earlier epact golden = nat_eq epact 24 || (nat_eq epact 25 && nat_lt 10 golden)

-- This is the number of days from 21 March to the full moon: 23 minus the epact, modulo 30, or a day less.
-- Examples: 19 and 10: 4; 24 and 5: 28; 25 and 5: 28; 25 and 16: 27.
abbrev pub days_to_full_moon : ℕ → ℕ → ℕ
days_to_full_moon epact golden = if is_day_earlier epact golden then (53 - epact) % 30 - 1 else (53 - epact) % 30

-- The day is that of the Paschal full moon of the year.
-- Examples: 2024: 19807 (2024-03-25); 1981: 4125 (1981-04-18).
pub record IsPaschalFullMoon (year day : ℤ) : Type 0 where
  pub golden : ℕ
  pub century : ℤ
  pub epact : ℕ
  pub golden_is : IsGolden year golden
  pub century_is : IsCentury year century
  pub epact_is : IsEpact century golden epact
  pub day_is : day ≡ day_number year 3 21 +ℤ pos (days_to_full_moon epact golden)

-- The day is Easter of the year: the first Sunday after the Paschal full moon.
-- Examples: 2024: 19813 (2024-03-31); 1981: 4126 (1981-04-19).
pub record IsEaster (year day : ℤ) : Type 0 where
  pub full_moon : ℤ
  pub full_moon_is : IsPaschalFullMoon year full_moon
  pub sunday_is : IsFirstWeekday (full_moon +ℤ pos 1) Sunday day
