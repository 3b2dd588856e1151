-- The date of Easter.
use Rattle.calendar.specs.Easter.{IsEaster, IsEpact, IsLunarCorrection, IsPaschalFullMoon, IsSolarCorrection, days_to_full_moon}
use Rattle.calendar.proofs.Common.{◌≡◌, ◌⊎◌, ◌+◌, ◌-◌, ◌*◌, ◌/◌, ◌<◌, ◌+ℤ◌, ◌-ℤ◌, ◌*ℤ◌, ℕ, ℤ, pos, unsigned_abs, ◌∙◌, ap, arith, inl, inr, refl, sym, nat_tests, by_lt_z, ints, to_z-of_z, floored_by_range, floored_remainder_range, linear, only_floored, IsFloored, IsQuotient, IsRemainder, weekday_number, HasWeekday, IsFirstWeekday, day_number, Weekday, Sunday}
use Rattle.calendar.proofs.WeekdayPlaces.{days_later, first_within, only_first}
use Rattle.calendar.specs.Laws as law

-- the Sunday after a day
pub next_sunday : {day : ℤ} {weekday : Weekday} {n days : ℕ} → HasWeekday day weekday → n ≡ weekday_number weekday → n < 7 → days ≡ 7 - n
    → IsFirstWeekday (day +ℤ pos 1) Sunday (day +ℤ pos days)
next_sunday {days = days} h is small place = first_within Sunday (days_later days refl h (omega arith)) (omega ints) (omega ints)

-- the remainder of the sum is the epact
pub is_epact : {century given solar lunar sum rest : ℤ} {epact : ℕ} (golden : ℕ) → given ≡ century → IsSolarCorrection given solar
    → IsLunarCorrection given lunar → sum ≡ pos 11 *ℤ pos golden +ℤ pos 8 -ℤ solar +ℤ lunar
    → IsRemainder IsFloored sum (pos 30) rest → epact ≡ unsigned_abs rest → IsEpact century golden epact
is_epact {solar = solar} {lunar = lunar} {rest = rest} {epact = epact} golden same solar_is lunar_is sum_is h rest_is =
    let place : rest ≡ pos epact = omega (ints, floored_remainder_range (omega ints) h) in
    rw (← same) (grind arith)

-- the quotient of the sum is the lunar correction
pub is_lunar : (century : ℤ) {sum quotient lunar : ℤ} → sum ≡ pos 8 *ℤ century +ℤ pos 13 → lunar ≡ quotient
    → IsQuotient IsFloored sum (pos 25) quotient → IsLunarCorrection century lunar
is_lunar century same is h = rw is (rw same at h)

-- the days from 1 March on follow each other
pub march_days_later : (year : ℤ) (day : ℕ) {more days : ℕ} → more ≡ days → day_number year 3 (day + more) ≡ day_number year 3 day +ℤ pos days
march_days_later year day same = omega ints

-- the Sunday after the full moon is Easter
pub is_easter : {year full_moon day sunday : ℤ} (days : ℕ) → IsPaschalFullMoon year full_moon → day ≡ full_moon
    → IsFirstWeekday (day +ℤ pos 1) Sunday (day +ℤ pos days) → sunday ≡ full_moon +ℤ pos days → IsEaster year sunday
is_easter {full_moon =
    full_moon} days h same first place = record { full_moon = full_moon; full_moon_is = h; sunday_is = rw place (rw same at first) }

-- ---- one day at most

only_quotient : {n d p q : ℤ} → IsQuotient IsFloored n d p → IsQuotient IsFloored n d q → p ≡ q
only_quotient h k = (only_floored h.division k.division).0

only_remainder : {n d : ℤ} {r s : ℕ} → IsRemainder IsFloored n d (pos r) → IsRemainder IsFloored n d (pos s) → r ≡ s
only_remainder h k = ap unsigned_abs (only_floored h.division k.division).1

only_solar : {century a b : ℤ} → IsSolarCorrection century a → IsSolarCorrection century b → a ≡ b
only_solar h k = omega (linear, only_quotient h.leap_centuries_is k.leap_centuries_is, h.days_is, k.days_is)

only_epact : {century : ℤ} {golden a b : ℕ} → IsEpact century golden a → IsEpact century golden b → a ≡ b
only_epact h k = only_remainder (rw (only_solar h.solar_is k.solar_is, only_quotient h.lunar_is k.lunar_is) at h.epact_is) k.epact_is

only_full_moon : {year a b : ℤ} → IsPaschalFullMoon year a → IsPaschalFullMoon year b → a ≡ b
only_full_moon h k =
    let golden = only_remainder h.golden_is k.golden_is in
    let epact = only_epact (rw (golden, only_quotient h.century_is k.century_is) at h.epact_is) k.epact_is in
    rw (golden, epact) at h.day_is ∙ sym k.day_is

pub only_easter : law.EasterIsOnly
only_easter year a b h k = only_first _ _ a b (rw (only_full_moon h.full_moon_is k.full_moon_is) at h.sunday_is) k.sunday_is

-- ---- the full moons of a century

floored : {n q : ℤ} (d : ℕ) (r : ℕ) → n ≡ q *ℤ pos d +ℤ pos r → r < d → IsFloored n (pos d) q (pos r)
floored d r equation below = floored_by_range equation (omega ints) (omega ints)

-- a full moon so many days after 21 March, by its epact
abbrev HasMoon : ℕ → ℕ → ℕ → Type 0
HasMoon epact golden days = ((epact < 24) × (days + epact ≡ 23)) ⊎ ((25 < epact) × (days + epact ≡ 53)) ⊎ ((epact ≡ 24) × (days ≡ 28)) ⊎ ((epact ≡ 25) × (golden < 11) × (days ≡ 28)) ⊎ ((epact ≡ 25) × (10 < golden) × (days ≡ 27))

moon : (epact golden : ℕ) → epact < 30 → HasMoon epact golden (days_to_full_moon epact golden)
moon epact golden below = grind (arith, nat_tests)

-- of one golden number, if two are in one century
one_golden : (g h e f days : ℕ) (q : ℤ) → g < 19 → h < 19 → f < 30 → pos (11 * g + f) ≡ pos (11 * h + e) +ℤ pos 30 *ℤ q → HasMoon e g days
    → HasMoon f h days → g ≡ h
one_golden g h e f days q below other_below small apart a b = grind ints

small_epact : {century : ℤ} {golden epact : ℕ} → IsEpact century golden epact → epact < 30
small_epact h = omega (ints, floored_remainder_range (omega ints) h.epact_is)

-- the epacts of a century, by their golden numbers
epacts_apart : {century : ℤ} {g h e f : ℕ} (a : IsEpact century g e) (b : IsEpact century h f)
    → pos (11 * g + f) ≡ pos (11 * h + e) +ℤ pos 30 *ℤ (a.epact_is.quotient -ℤ b.epact_is.quotient)
epacts_apart a b = omega (ints, a.epact_is.division, b.epact_is.division, only_solar a.solar_is b.solar_is, only_quotient a.lunar_is b.lunar_is)

pub different_moons : law.FullMoonsDiffer
different_moons century golden other epact other_epact below other_below h k =
    let own = moon epact golden (small_epact h) in
    let theirs = moon other_epact other (small_epact k) in (
      grind arith,
      λ same. one_golden golden other epact other_epact (days_to_full_moon epact golden) (h.epact_is.quotient -ℤ k.epact_is.quotient) below other_below (small_epact k) (epacts_apart h k) own (rw same theirs),
    )

-- the epact of another golden number of the century
another_epact : {century : ℤ} {golden other epact found : ℕ} (q : ℤ) → IsEpact century golden epact → found < 30
    → pos (11 * golden + found) ≡ pos (11 * other + epact) +ℤ pos 30 *ℤ q → IsEpact century other found
another_epact {century} {golden} {other} {epact} {found} q h below apart =
    let epact_is : IsRemainder IsFloored (pos 11 *ℤ pos other +ℤ pos 8 -ℤ h.solar +ℤ h.lunar) (pos 30) (pos found) =
    record { quotient = h.epact_is.quotient -ℤ q; division = floored 30 found (omega (ints, h.epact_is.division)) below } in
    grind arith

-- the epact 25 is that of the golden number 11 above that of 24
pub earlier_moons : law.EarlierFullMoons
earlier_moons century golden epact below h = (
  λ earlier.
      let cases : (epact ≡ 24) ⊎ ((epact ≡ 25) × (10 < golden)) = grind (arith, nat_tests) in
      elim cases [
        | inl e ↦ inl e
        | inr (e, late) ↦ inr (e, (golden - 11, omega arith, another_epact (pos 4) h (omega arith) (omega ints)))
      ],
  λ either. elim either [
    | inl e ↦ grind (arith, nat_tests)
    | inr (e, (other, other_below, k)) ↦ let late : 10 < golden = omega (ints, epacts_apart h k) in grind (arith, nat_tests)
  ],
)

-- ---- the tables

pub next_epact : law.EpactOfTheNextYear
next_epact century golden epact h = another_epact (pos 0 -ℤ pos ((epact + 11) / 30)) h (omega arith) (omega ints)

pub next_solar : law.SolarCorrectionOfTheNextCentury
next_solar century days h =
    let is = h.days_is in (
      λ leap.
          let product = leap.product in
          record { leap_centuries = leap.factor; leap_centuries_is = record { remainder = pos 0; division = grind ints }; days_is = omega ints },
      λ common. by_lt_z (century +ℤ pos 1) (h.leap_centuries *ℤ pos 4 +ℤ pos 4)
          (λ less. record { leap_centuries = h.leap_centuries; leap_centuries_is = record { remainder = h.leap_centuries_is.remainder +ℤ pos 1; division = grind ints }; days_is = omega ints })
          (λ more. absurd (common (record { factor = h.leap_centuries +ℤ pos 1; product = omega ints }))),
    )

pub later_lunar : law.LunarCorrectionOfTwentyFiveCenturies
later_lunar century days h =
    let range = floored_remainder_range {n = pos 8 *ℤ century +ℤ pos 13} {d = pos 25} {r = h.remainder} (omega ints) (record { quotient = days; division = h.division }) in
    record { remainder = h.remainder; division = floored_by_range (omega ints) range.0 range.1 }

pub lunar_from_1800 : law.LunarCorrectionsFrom1800
lunar_from_1800 step place to where_is =
    record { remainder = pos (7 + 8 * place - step); division = floored 25 (7 + 8 * place - step) (omega ints) (grind arith) }

pub first_epact : law.EpactOfTheFirstYear
first_epact =
    (early (pos 15) (pos 3) 3 8 refl (omega arith) refl refl (omega arith), early (pos 16) (pos 4) 0 16 refl (omega arith) refl refl (omega arith))
  where
    early : (century leap : ℤ) (rest moon : ℕ) → century ≡ leap *ℤ pos 4 +ℤ pos rest → rest < 4 → pos 12 ≡ century -ℤ leap
        → pos 8 *ℤ century +ℤ pos 13 ≡ pos 5 *ℤ pos 25 +ℤ pos moon → moon < 25 → IsEpact century 0 1
    early century leap rest moon place small twelve gain moon_small = record {
      solar = pos 12;
      lunar = pos 5;
      solar_is = record { leap_centuries = leap; leap_centuries_is = record { remainder = pos rest; division = grind ints }; days_is = twelve };
      lunar_is = record { remainder = pos moon; division = grind ints };
      epact_is = record { quotient = pos 0; division = grind ints };
    }

-- what the goals about Easter and its full moon need
pub ruleset easter_steps = (ints, to_z-of_z, march_days_later, is_easter)
