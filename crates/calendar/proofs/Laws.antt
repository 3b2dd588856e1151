-- The laws of specs/Laws.antt, a lemma each.
use Rattle.calendar.proofs.Common.{arith, nat_tests, ints, divides_by_magnitude}
use Rattle.calendar.specs.LeapYears.{is_leap_year, is_multiple}
use Rattle.calendar.specs.Years.{days_in_year}
use Rattle.calendar.proofs.YearLengths.{length_of}
-- ---- years

pub use Rattle.calendar.proofs.YearLengths.{next_first_day as years_follow}
pub use Rattle.calendar.proofs.DatesOfDays.{year_of_day_exists}
pub use Rattle.calendar.proofs.IsoWeeks.{one_year as year_of_day_is_only}
-- ---- dates

pub use Rattle.calendar.proofs.DateOrder.{only_date as date_is_only, only_of_parts as date_of_parts_is_only, only_of_year_day as date_of_year_day_is_only, only_last_of_month as last_of_month_is_only, order as order_of_dates}
pub use Rattle.calendar.proofs.DatesOfDays.{date_exists}
pub use Rattle.calendar.proofs.DateTexts.{only_text as text_is_only}
-- ---- months

pub use Rattle.calendar.proofs.MonthSteps.{months_after_exists, only_months_after as months_after_is_only, only_months_between as months_between_is_only, only_years_between as years_between_is_only}
pub use Rattle.calendar.proofs.MonthWeekdays.{only_last_of_month as last_weekday_of_month_is_only, only_nth_weekday as nth_weekday_is_only}
pub use Rattle.calendar.proofs.NextLastWeekdays.{next_last_weekday_exists, only_next_last as next_last_weekday_is_only}
-- ---- weeks

pub use Rattle.calendar.proofs.WeekdayPlaces.{first_exists as first_weekday_exists, last_exists as last_weekday_exists, next_weekdays as weekdays_follow, only_first as first_weekday_is_only, only_iso_number as iso_number_is_only, only_last as last_weekday_is_only, only_weekday as weekday_is_only, only_weekday_after as weekday_after_is_only}
pub use Rattle.calendar.proofs.DatesOfDays.{iso_week_exists, weeks_after_exist as weeks_after_exists}
pub use Rattle.calendar.proofs.IsoWeeks.{iso_day_exists, of_numbers as iso_week_of_numbers_is_only, one_day as iso_day_is_only, one_number as iso_weeks_are_only, one_week as iso_week_is_only, only_weeks_after as weeks_after_is_only, only_weeks_between as weeks_between_are_only, ordered_weeks as order_of_iso_weeks, week_range as weeks_of_a_year}
-- ---- Easter

pub use Rattle.calendar.proofs.EasterSundays.{different_moons as full_moons_differ, earlier_moons as earlier_full_moons, only_easter as easter_is_only}
pub use Rattle.calendar.proofs.EasterSundays.{first_epact as epact_of_the_first_year, next_epact as epact_of_the_next_year}
pub use Rattle.calendar.proofs.EasterSundays.{later_lunar as lunar_correction_of_twenty_five_centuries, lunar_from_1800 as lunar_corrections_from_1800, next_solar as solar_correction_of_the_next_century}
use Rattle.calendar.specs.Laws as law

-- ---- those that are proved here

pub leap_years_by_divisors : law.LeapYearsByDivisors
unfolding is_leap_year is_multiple
leap_years_by_divisors = λ year.
    let four = divides_by_magnitude year 4 (omega arith) in
    let hundred = divides_by_magnitude year 100 (omega arith) in
    let four_hundred = divides_by_magnitude year 400 (omega arith) in
    grind (arith, nat_tests)

pub lengths_of_years : law.LengthsOfYears
unfolding days_in_year
lengths_of_years = λ year. length_of (is_leap_year year)

pub first_day : law.FirstDay
first_day = omega ints
