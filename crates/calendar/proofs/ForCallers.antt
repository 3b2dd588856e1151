-- Lemmas for callers. The laws are in proofs/Laws.antt.

-- A result is there if something meets its condition.
pub use Rattle.calendar.proofs.FoundOrBeyond.{is_found}
-- A month has 28 to 31 days.
pub use Rattle.calendar.proofs.MonthLengths.{month_length_range}
-- Equal month numbers are those of one year and month, and a date of a later month is later.
pub use Rattle.calendar.proofs.MonthSteps.{later_month, same_month}
-- Each date has a date any number of months after it, and one after more months is not earlier.
pub use Rattle.calendar.proofs.MonthSteps.{months_after_exists, months_in_order}
-- There is a number of whole months from each date to each other, and one month more leads beyond the second.
pub use Rattle.calendar.proofs.MonthSteps.{months_between_exist, next_month_is_later}
-- A week later, and some weeks away, the day of the week is the same.
pub use Rattle.calendar.proofs.WeekdayPlaces.{week_later, weeks_apart}
-- Each day of the week comes within a week, and less than a week apart only once.
pub use Rattle.calendar.proofs.WeekdayPlaces.{same_day, weekday_within}
-- Each month has a first, a second, a third and a fourth of each day of the week.
pub use Rattle.calendar.proofs.MonthWeekdays.{nth_weekday_exists}
-- Each month has a last of each day of the week, and that of a later month is later.
pub use Rattle.calendar.proofs.MonthWeekdays.{last_weekday_exists}
pub use Rattle.calendar.proofs.NextLastWeekdays.{last_weekdays_in_order}
-- After each date comes a date that is the last of a day of the week in its month.
pub use Rattle.calendar.proofs.NextLastWeekdays.{next_last_weekday_exists}
-- The day of a date in its year is from 1 to the length of the year.
pub use Rattle.calendar.proofs.DateOrder.{year_day_range}
-- A date is in its year.
pub use Rattle.calendar.proofs.DatesOfDays.{in_its_year}
-- A year has 365 or 366 days.
pub use Rattle.calendar.proofs.YearLengths.{length_range}
-- The days from a first one on, to the one before an end, are as many as the end is after the first.
-- They begin with the first, and go on with the days from the next one on.
pub use Rattle.calendar.proofs.DayRanges.{days_from_first, first_of_days, no_days}
-- The result of `plus_weeks` that `?` passes on, with a number of weeks that is an argument. `using` finds it.
pub use Rattle.calendar.proofs.PassedOn.{weeks_passed_on}
