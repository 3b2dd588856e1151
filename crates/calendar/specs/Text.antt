-- The strings of dates and of weeks.
use Rattle.std.specs.Prelude.{◌≡◌, ◌≤◌, ◌++◌, ◌-◌, ℕ, suc, ℤ, pos, negsuc, List, codes, length, nat_lt, if◌then◌else◌, replicate, slice_index}
use Rattle.std.specs.Fmt.{decimal}
use Rattle.std.specs.Int.{IsInRange}
use Rattle.calendar.specs.declared.date.Date.{Date}
use Rattle.calendar.specs.declared.iso_weeks.IsoWeek.{IsoWeek}

-- These are the decimal digits of the number, with zeros in front up to `places` digits.
-- Examples: 4 and 7: `0007`; 2 and 11: `11`; 4 and 12345: `12345`.
abbrev pub padded : ℕ → ℕ → List ℕ
padded places n = replicate (places - length (decimal n)) 48 ++ decimal n

-- This is the magnitude of the year with at least four digits. A minus comes first if the year is negative, and a plus if it is greater than 9999.
-- Examples: 2026: `2026`; -1: `-0001`; 10000: `+10000`.
unfoldable pub year_text : ℤ → List ℕ
year_text (pos n) = if nat_lt 9999 n then codes "+" ++ padded 4 n else padded 4 n
year_text (negsuc n) = codes "-" ++ padded 4 (suc n)

-- This is the string, then a hyphen, then the number with at least two digits.
-- Examples: `2026` and 9: `2026-09`; `2026-09` and 31: `2026-09-31`; the empty string and 7: `-07`.
abbrev pub with_number : List ℕ → ℕ → List ℕ
with_number front n = front ++ codes "-" ++ padded 2 n

-- This is the string of the date: the year, the month and the day of the month, with hyphens between them.
-- Examples: `2026-11-23`; `-0001-12-31`; `+10000-01-01`.
abbrev pub text_of : Date → List ℕ
text_of date = with_number (with_number (year_text date.year) date.month) date.day_of_month

-- This is the string of the year, then `-W` and the number of the week with at least two digits.
-- Examples: 2004 and 53: `2004-W53`; -1 and 2: `-0001-W02`.
abbrev pub week_text : IsoWeek → List ℕ
week_text week = year_text week.year ++ codes "-W" ++ padded 2 week.week

-- The string has at least four bytes, and the first is a digit. If it has more than four bytes, it does not begin with 0.
-- Examples: `0007`; `12345`; not `02026`.
abbrev pub IsShortest : List ℕ → Type 0
IsShortest ds = (4 ≤ length ds) × IsInRange 48 57 (slice_index ds 0) × (slice_index ds 0 ≡ 48 → length ds ≡ 4)

-- This is the message of `DateError`.
-- Examples: always `not the text of a date`.
abbrev pub error_text : List ℕ
error_text = codes "not the text of a date"
