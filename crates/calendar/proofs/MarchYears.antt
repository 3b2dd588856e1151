-- The months, and years that begin on 1 March.
use Rattle.calendar.specs.LeapYears.{is_leap_year}
use Rattle.std.specs.List.{range_with_len}
use Rattle.std.proofs.lemmas.List.FromFn.{get_or-range_with_len}
use Rattle.calendar.proofs.Common.{FitsSigned, w64, to_z, of_z, ◌≡◌, ◌+◌, ◌-◌, ◌*◌, ◌/◌, ◌%◌, ◌<◌, ◌≤◌, ◌+ℤ◌, ◌-ℤ◌, ◌*ℤ◌, ℕ, ℤ, pos, Bool, sum, take, arith, inl, inr, rules, cases_lt, ints, to_z-of_z, All-get_or, days_before_month, month_lengths, day_number}
use Rattle.calendar.specs.Years.{days_in_year}
use Rattle.calendar.proofs.YearLengths.{in_era, length_range, march_days, next_first_day}

-- ---- months

-- the days from 1 March to the first of a later month
abbrev pub march_months : ℕ → ℕ
march_months month = (153 * month - 457) / 5

-- the month begins so many days after 1 March
abbrev FollowsMarch : Bool → ℕ → Type 0
FollowsMarch leap month = sum (take (month - 1) (month_lengths leap)) ≡ sum (take 2 (month_lengths leap)) + march_months month

pub from_third_month : (year : ℤ) (month : ℕ) → 3 ≤ month → month ≤ 12 → days_before_month year month ≡ days_before_month year 3 + march_months month
from_third_month year month from to =
    let month_is : 3 + (month - 3) ≡ month = omega arith in
    let own = All-get_or (FollowsMarch (is_leap_year year)) (range_with_len 3 10) (month - 3) 0 (omega arith) (grind arith) in
    rw (get_or-range_with_len 3 10 (month - 3) 0 (omega arith), month_is) at own

-- 306 days are left from 1 March on
pub third_month : (year : ℤ) → days_before_month year 3 + 306 ≡ days_in_year year
unfolding days_in_year
third_month year = omega arith

-- a day from March on, as a month and a day of that month
pub month_and_day : (days : ℕ) → days < 306 → march_months ((2141 * days + 197913) / 65536) + (2141 * days + 197913) % 65536 / 2141 ≡ days
month_and_day days small = omega arith

-- what a function's goals about months from March on need
pub ruleset month_steps = (ints, to_z-of_z, length_range, third_month, from_third_month, month_and_day)

-- and those about the two years that March divides
pub ruleset march_parts = (ints, to_z-of_z, length_range, third_month, next_first_day)

-- ---- years

-- the 1 March so many years after that of an era
pub march_first : (era : ℤ) (n : ℕ) → day_number (pos 400 *ℤ era +ℤ pos n) 3 1 ≡ pos 146097 *ℤ era +ℤ pos (march_days n) -ℤ pos 719468
march_first era n =
    let next = in_era era n (pos 400 *ℤ era +ℤ pos n +ℤ pos 1) (omega ints) in
    omega (ints, third_month (pos 400 *ℤ era +ℤ pos n), next_first_day (pos 400 *ℤ era +ℤ pos n))

-- what a function's goals about a 1 March need
pub ruleset march_steps = (ints, march_first)

-- the days from the last 1 March to the first of a month, and whether that is in the same year
module _ (month after months : ℕ) (before : month ≤ 2 → after ≡ 0) (same : 2 < month → after ≡ 1) (early : month ≤ 2 → (year : ℤ) → months ≡ days_before_month year month + 306)
    (late : 2 < month → (year : ℤ) → days_before_month year month ≡ days_before_month year 3 + months) where
  -- the days before the month
  pub days_before : (year : ℤ) → months + after * days_in_year year ≡ days_before_month year month + 306
  days_before year = search (rules, third_month)

  -- the first of the month, by the days to 1 March
  pub month_of_march : (era : ℤ) (year years : ℕ)
      → ((e : ℤ) → day_number (pos 400 *ℤ e +ℤ pos (year + 399 + after)) 3 1 ≡ pos 146097 *ℤ e +ℤ pos years -ℤ pos 719468)
      → day_number (pos 400 *ℤ era +ℤ pos year) month 1 ≡ pos 146097 *ℤ era +ℤ pos (years + months) -ℤ pos 865565
  month_of_march era year years first =
      let march = first (era -ℤ pos 1) in
      elim (cases_lt 2 month) [
        | inl later ↦
            let place : pos 400 *ℤ (era -ℤ pos 1) +ℤ pos (year + 399 + after) ≡ pos 400 *ℤ era +ℤ pos year = omega (ints, same later) in
            omega (ints, rw place at march, late later (pos 400 *ℤ era +ℤ pos year))
        | inr sooner ↦
            let last : ℤ = pos 400 *ℤ (era -ℤ pos 1) +ℤ pos (year + 399 + after) in
            let place : pos 400 *ℤ era +ℤ pos year ≡ last +ℤ pos 1 = omega (ints, before sooner) in
            rw place (omega (ints, march, third_month last, next_first_day last, early sooner (last +ℤ pos 1)))
      ]

-- so in a year by its era, as they are passed to a function
pub month_at : {year : ℤ} (era : ℤ × ℕ) (month days : ℕ) → FitsSigned w64 year → to_z w64 (of_z w64 year) ≡ pos 400 *ℤ era.0 +ℤ pos era.1
    → ((e : ℤ) → day_number (pos 400 *ℤ e +ℤ pos era.1) month 1 ≡ pos 146097 *ℤ e +ℤ pos days -ℤ pos 865565)
    → day_number year month 1 ≡ pos 146097 *ℤ era.0 +ℤ pos days -ℤ pos 865565
month_at era month days fits place day = rw (simp to_z-of_z at place) (day era.0)

-- whole years in some days, and the days that are left
abbrev pub years_in : ℕ → ℕ
years_in days = 100 * ((4 * days + 3) / 146097) + ((4 * days + 3) % 146097 / 4 * 4 + 3) / 1461

abbrev pub days_left : ℕ → ℕ
days_left days = ((4 * days + 3) % 146097 / 4 * 4 + 3) % 1461 / 4

pub whole_years : (days : ℕ) → days < 300000 → (days ≡ march_days (years_in days) + days_left days) × (days < march_days (years_in days + 1))
whole_years days small = (omega arith, omega arith)

-- so the days that are left are those of less than a year
pub part_of_year : (era : ℤ) (n rest days : ℕ) → (days ≡ march_days n + rest) × (days < march_days (n + 1))
    → rest < days_in_year (pos 400 *ℤ era +ℤ pos n +ℤ pos 1)
part_of_year era n rest days within =
    let first = in_era era n (pos 400 *ℤ era +ℤ pos n +ℤ pos 1) (omega ints) in
    let second = in_era era (n + 1) (pos 400 *ℤ era +ℤ pos n +ℤ pos 1 +ℤ pos 1) (omega ints) in
    omega (ints, next_first_day (pos 400 *ℤ era +ℤ pos n +ℤ pos 1))
