-- Days that have a given day of the week, and the first and the last of them.
use Rattle.integer_core.proofs.Least.{greatest_is_only, least_is_only}
use Rattle.calendar.proofs.Common.{floored_exists, floored_remainder_range, ◌≡◌, ◌+◌, ◌-◌, ◌/◌, ◌%◌, ◌<◌, ◌≤ℤ◌, ◌<ℤ◌, ◌+ℤ◌, ◌-ℤ◌, ◌*ℤ◌, ℕ, ℤ, pos, unsigned_abs, FitsSigned, MatchOption, Option, w64, SomeIff, ap, arith, refl, ints, floored_by_range, linear, only_floored, IsFloored, IsRemainder, Weekday, Thursday, weekday_number, HasWeekday, IsFirstWeekday, IsLastWeekday, IsWeekdayAfter}
use Rattle.calendar.proofs.FoundOrBeyond.{only_or_beyond}
use Rattle.calendar.specs.Laws as law

-- ---- days of one day of the week

pub below_seven : (weekday : Weekday) → weekday_number weekday < 7
below_seven weekday = grind arith

only_number : {a b : Weekday} → weekday_number a ≡ weekday_number b → a ≡ b
only_number {a} {b} same = grind arith

-- by whole weeks
pub on_weekday : {day : ℤ} (weekday : Weekday) (weeks : ℤ) → day +ℤ pos 4 ≡ weeks *ℤ pos 7 +ℤ pos (weekday_number weekday) → HasWeekday day weekday
on_weekday weekday weeks equation =
    record { remainder = record { quotient = weeks; division = floored_by_range equation (omega ints) (omega (ints, below_seven weekday)) } }

-- Days some weeks apart have the same day of the week.
pub weeks_apart : {day other : ℤ} {weekday : Weekday} (weeks : ℤ) → other ≡ day +ℤ pos 7 *ℤ weeks → HasWeekday day weekday → HasWeekday other weekday
weeks_apart {weekday = weekday} weeks apart h =
    on_weekday weekday (h.remainder.quotient +ℤ weeks) (omega (ints, h.remainder))

-- A week later the day of the week is the same.
pub week_later : {day : ℤ} {weekday : Weekday} → HasWeekday day weekday → HasWeekday (day +ℤ pos 7) weekday
week_later h = weeks_apart (pos 1) refl h

-- the day of the week some days later, and some days before
pub days_later : {day later : ℤ} {a b : Weekday} (n : ℕ) → later ≡ day +ℤ pos n → HasWeekday day a → weekday_number b ≡ (weekday_number a + n) % 7
    → HasWeekday later b
days_later {a = a} {b = b} n place h turned = on_weekday b (h.remainder.quotient +ℤ pos ((weekday_number a + n) / 7)) (omega (ints, h.remainder))

pub days_earlier : {day sooner : ℤ} {a b : Weekday} (n : ℕ) → sooner ≡ day -ℤ pos n → HasWeekday day a → weekday_number a ≡ (weekday_number b + n) % 7
    → HasWeekday sooner b
days_earlier {b = b} n place h turned = on_weekday b (h.remainder.quotient -ℤ pos ((weekday_number b + n) / 7)) (omega (ints, h.remainder))

-- eras are whole weeks
pub weekday_in_era : {day : ℤ} (era : ℤ) (n : ℕ) (weekday : Weekday) → day ≡ pos 146097 *ℤ era +ℤ pos n -ℤ pos 865566
    → weekday_number weekday ≡ (n + 2) % 7 → HasWeekday day weekday
weekday_in_era era n weekday place is = on_weekday weekday (pos 20871 *ℤ era -ℤ pos 123652 +ℤ pos ((n + 2) / 7)) (omega ints)

-- Days of one day of the week are less than a week apart only if they are the same.
pub same_day : {a b : ℤ} (weekday : Weekday) → HasWeekday a weekday → HasWeekday b weekday → a <ℤ (b +ℤ pos 7) → b <ℤ (a +ℤ pos 7) → a ≡ b
same_day {a} {b} weekday h k after before = omega (ints, h.remainder, k.remainder)

-- ---- the first and the last of them

-- that within a week
pub first_within : {from day : ℤ} (weekday : Weekday) → HasWeekday day weekday → from ≤ℤ day → day <ℤ (from +ℤ pos 7)
    → IsFirstWeekday from weekday day
first_within {from} {day} weekday h up near = record { from_there = up; holds = h; least = λ other after k. grind (linear, same_day weekday h k) }

pub last_within : {to day : ℤ} (weekday : Weekday) → HasWeekday day weekday → day ≤ℤ to → to <ℤ (day +ℤ pos 7) → IsLastWeekday to weekday day
last_within {to} {day} weekday h down near = record { to_there = down; holds = h; greatest = λ other before k. grind (linear, same_day weekday h k) }

-- the first and the last are only one
pub only_first : law.FirstWeekdayIsOnly
only_first from weekday a b h k = least_is_only k a h

pub only_last : law.LastWeekdayIsOnly
only_last to weekday a b h k = greatest_is_only k a h

-- by the days between the days of the week, if it fits
pub first_or_beyond : (o : Option ℤ) {day given found : ℤ} (a b : Weekday) (n : ℕ) → given ≡ day
    → IsRemainder IsFloored (given +ℤ pos 4) (pos 7) (pos (weekday_number a)) → weekday_number b ≡ (weekday_number a + n) % 7 → n < 7 → found ≡ day +ℤ pos n → SomeIff o (FitsSigned w64 found) found
    → MatchOption o ((z : ℤ) → IsFirstWeekday day b z → ¬ (FitsSigned w64 z)) (IsFirstWeekday day b)
first_or_beyond o {day = day} {given = given} a b n same h turned small place found =
    only_or_beyond (IsFirstWeekday day b) o (only_first day b) found
    (first_within b (days_later {day = given} {a = a} n (omega ints) (record { remainder = h }) turned) (omega ints) (omega ints))

pub last_or_beyond : (o : Option ℤ) {day given found : ℤ} (a b : Weekday) (n : ℕ) → given ≡ day
    → IsRemainder IsFloored (given +ℤ pos 4) (pos 7) (pos (weekday_number a)) → weekday_number a ≡ (weekday_number b + n) % 7 → n < 7 → found ≡ day -ℤ pos n → SomeIff o (FitsSigned w64 found) found
    → MatchOption o ((z : ℤ) → IsLastWeekday day b z → ¬ (FitsSigned w64 z)) (IsLastWeekday day b)
last_or_beyond o {day = day} {given = given} a b n same h turned small place found =
    only_or_beyond (IsLastWeekday day b) o (only_last day b) found
    (last_within b (days_earlier {day = given} {a = a} n (omega ints) (record { remainder = h }) turned) (omega ints) (omega ints))

-- Each day of the week comes within a week.
pub weekday_within : (day : ℤ) (weekday : Weekday) → (days : ℕ) × (days < 7) × HasWeekday (day +ℤ pos days) weekday
weekday_within day weekday =
    let (weeks, rest, h) = floored_exists (day +ℤ pos 4) (pos 7) (omega ints) in
    let range = floored_remainder_range (omega ints) (record { quotient = weeks; division = h }) in
    let place = weekday_number weekday + 7 - unsigned_abs rest in
    (place % 7, omega arith, on_weekday weekday (weeks +ℤ pos 1 -ℤ pos (place / 7)) (omega (ints, h.division)))

-- so there is a first and a last
pub first_exists : law.FirstWeekdayExists
first_exists from weekday =
    let (days, small, h) = weekday_within from weekday in
    (_, first_within weekday h (omega ints) (omega ints))

pub last_exists : law.LastWeekdayExists
last_exists to weekday =
    let (days, small, h) = weekday_within (to -ℤ pos 6) weekday in
    (_, last_within weekday h (omega ints) (omega ints))

-- ---- one day of the week

pub only_weekday : law.WeekdayIsOnly
only_weekday day a b h k = only_number (ap unsigned_abs (only_floored h.remainder.division k.remainder.division).1)

pub only_iso_number : law.IsoNumberIsOnly
only_iso_number a b same = only_number (omega (arith, below_seven a, below_seven b))

-- days of the week follow one another from the Thursday of day 0
pub next_weekdays : law.WeekdaysFollow
next_weekdays = (
  on_weekday Thursday (pos 0) (omega ints),
  λ day a b h k. omega (ints, h.remainder, k.remainder, below_seven a, below_seven b),
)

-- that of a number of days later
pub weekday_after : {from weekday : Weekday} {days rest : ℤ} → IsRemainder IsFloored days (pos 7) rest
    → weekday_number weekday ≡ (weekday_number from + unsigned_abs rest) % 7 → IsWeekdayAfter from days weekday
weekday_after {from} {weekday} {rest = rest} h turned =
    let range = floored_remainder_range (omega ints) h in
    record { holds = λ day k. days_later (unsigned_abs rest) (omega (ints, range, h.division)) (weeks_apart h.quotient refl k) turned }

pub only_weekday_after : law.WeekdayAfterIsOnly
only_weekday_after from days a b h k =
    let (n, small, day) = weekday_within (pos 0) from in
    only_weekday _ a b (h.holds _ day) (k.holds _ day)
