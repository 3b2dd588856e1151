-- The numbers and the names of the days of the week.
use Rattle.std.specs.Prelude.{◌+◌, ◌%◌, ℕ, List, codes}
use Rattle.calendar.specs.declared.weekday.Weekday.{Weekday}
use Rattle.calendar.specs.declared.weekday.Weekday.TheVariants.{Sunday, Monday, Tuesday, Wednesday, Thursday, Friday, Saturday}

-- This is the number of days from a Sunday to the day of the week: 0 to 6.
-- Examples: Sunday: 0; Thursday: 4; Saturday: 6.
abbrev pub weekday_number : Weekday → ℕ
weekday_number Sunday = 0
weekday_number Monday = 1
weekday_number Tuesday = 2
weekday_number Wednesday = 3
weekday_number Thursday = 4
weekday_number Friday = 5
weekday_number Saturday = 6

-- This is the ISO 8601 number of the day of the week: 1 for Monday to 7 for Sunday.
-- Examples: Monday: 1; Thursday: 4; Sunday: 7.
abbrev pub iso_number : Weekday → ℕ
iso_number weekday = (weekday_number weekday + 6) % 7 + 1

-- This is the English name of the day of the week.
-- Examples: Monday: `Monday`; Sunday: `Sunday`.
abbrev pub weekday_name : Weekday → List ℕ
weekday_name Sunday = codes "Sunday"
weekday_name Monday = codes "Monday"
weekday_name Tuesday = codes "Tuesday"
weekday_name Wednesday = codes "Wednesday"
weekday_name Thursday = codes "Thursday"
weekday_name Friday = codes "Friday"
weekday_name Saturday = codes "Saturday"

-- This is the message of `WeekdayError`.
-- Examples: always `not the name of a day of the week`.
abbrev pub weekday_error_text : List ℕ
weekday_error_text = codes "not the name of a day of the week"
