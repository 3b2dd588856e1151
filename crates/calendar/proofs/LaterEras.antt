-- Eras of 400 years, after which the calendar repeats.
use Rattle.calendar.proofs.Common.{◌↔◌, refl, ◌≡◌, ◌+◌, ◌-◌, ◌/◌, ◌%◌, ◌+ℤ◌, ◌-ℤ◌, ◌*ℤ◌, ℕ, ℤ, pos, negsuc, unsigned_abs, FitsSigned, MatchOption, Option, Some, None, w64, ◌∙◌, arith, sym, nat_tests, ints, HasParts, number_of, IsDate, first_day, Date}
use Rattle.calendar.specs.LeapYears.{is_leap_year, is_multiple}
use Rattle.calendar.proofs.DateOrder.{only_date}
use Rattle.calendar.proofs.YearLengths.{in_era}

-- ---- years

-- a number that divides 400 divides the years that are 400 apart, or none of them
multiples : (x y eras : ℤ) → y ≡ x +ℤ pos 400 *ℤ eras
    → ((unsigned_abs y % 4 ≡ 0) ↔ (unsigned_abs x % 4 ≡ 0)) × ((unsigned_abs y % 100 ≡ 0) ↔ (unsigned_abs x % 100 ≡ 0)) × ((unsigned_abs y % 400 ≡ 0) ↔ (unsigned_abs x % 400 ≡ 0))
multiples x y eras apart = omega ints

leap_later : (year eras : ℤ) → is_leap_year (year +ℤ pos 400 *ℤ eras) ≡ is_leap_year year
unfolding is_leap_year is_multiple
leap_later year eras = let three = multiples year (year +ℤ pos 400 *ℤ eras) eras refl in grind (arith, nat_tests)

-- so years begin 146097 days after those of the era before
from_place : (year eras era : ℤ) (n : ℕ) → year ≡ pos 400 *ℤ era +ℤ pos n +ℤ pos 1
    → first_day (year +ℤ pos 400 *ℤ eras) ≡ first_day year +ℤ pos 146097 *ℤ eras
from_place year eras era n place = omega (ints, in_era era n year place, in_era (era +ℤ eras) n (year +ℤ pos 400 *ℤ eras) (omega ints))

first_day_later : (year eras : ℤ) → first_day (year +ℤ pos 400 *ℤ eras) ≡ first_day year +ℤ pos 146097 *ℤ eras
first_day_later (pos n) eras = from_place (pos n) eras (pos (n / 400) -ℤ pos 1) (n % 400 + 399) (omega ints)
first_day_later (negsuc n) eras = from_place (negsuc n) eras (negsuc (n / 400) -ℤ pos 1) (798 - n % 400) (omega ints)

-- ---- dates

pub date_later : {year other : ℤ} {month day : ℕ} (eras : ℤ) → other ≡ year +ℤ pos 400 *ℤ eras → IsDate year month day → IsDate other month day
date_later {year} {other} {month} {day} eras is h = rw is (grind (arith, leap_later))

abbrev pub later : Date → ℤ → Date
later date eras =
    record { year = date.year +ℤ pos 400 *ℤ eras; month = date.month; day_of_month = date.day_of_month; valid = date_later eras refl date.valid }

pub number_later : (date : Date) (eras : ℤ) → number_of (later date eras) ≡ number_of date +ℤ pos 146097 *ℤ eras
number_later date eras = rw (leap_later date.year eras, first_day_later date.year eras) (omega ints)

-- the date some eras later is the only one of its day
pub later_or_none : (o : Option Date) (near : Date) (eras : ℤ) {day far : ℤ} → day ≡ number_of near +ℤ pos 146097 *ℤ eras
    → far ≡ near.year +ℤ pos 400 *ℤ eras
    → MatchOption o (¬ (FitsSigned w64 far)) (λ date. HasParts date far near.month near.day_of_month)
    → MatchOption o ((date : Date) → number_of date ≡ day → ¬ (FitsSigned w64 date.year)) (λ date. number_of date ≡ day)
later_or_none None near eras place year beyond = λ date same fits. grind (arith, only_date date (later near eras), number_later near eras)
later_or_none (Some date) near eras place year parts = rw (parts.year_is, year, parts.month_is, parts.day_is) (number_later near eras ∙ sym place)
