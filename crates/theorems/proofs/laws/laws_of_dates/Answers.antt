use Rattle.calendar.proofs.Laws as law
use Rattle.theorems.proofs.laws.laws_of_dates.Goals as goal

ruleset of_years = (
  law.leap_years_by_divisors,
  law.lengths_of_years,
  law.years_follow,
  law.first_day,
  law.year_of_day_exists,
  law.year_of_day_is_only,
)

ruleset of_dates = (law.date_of_parts_is_only, law.date_exists, law.date_is_only, law.date_of_year_day_is_only, law.order_of_dates, law.text_is_only)

ruleset of_months = (
  law.months_after_exists,
  law.months_after_is_only,
  law.nth_weekday_is_only,
  law.months_between_is_only,
  law.years_between_is_only,
  law.last_weekday_of_month_is_only,
  law.next_last_weekday_exists,
  law.next_last_weekday_is_only,
  law.last_of_month_is_only,
)

ruleset of_weeks = (
  law.iso_number_is_only,
  law.weekday_is_only,
  law.weekday_after_is_only,
  law.weekdays_follow,
  law.first_weekday_exists,
  law.first_weekday_is_only,
  law.last_weekday_exists,
  law.last_weekday_is_only,
  law.iso_week_exists,
  law.iso_week_is_only,
  law.iso_week_of_numbers_is_only,
  law.iso_day_exists,
  law.iso_day_is_only,
  law.weeks_of_a_year,
  law.iso_weeks_are_only,
  law.order_of_iso_weeks,
  law.weeks_after_exists,
  law.weeks_after_is_only,
  law.weeks_between_are_only,
)

ruleset of_easter = (
  law.easter_is_only,
  law.full_moons_differ,
  law.earlier_full_moons,
  law.epact_of_the_first_year,
  law.epact_of_the_next_year,
  law.solar_correction_of_the_next_century,
  law.lunar_corrections_from_1800,
  law.lunar_correction_of_twenty_five_centuries,
)

pub returns : goal.returns
returns c = search (of_years, of_dates, of_months, of_weeks, of_easter)
