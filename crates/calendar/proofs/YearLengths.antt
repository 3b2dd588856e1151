-- The days of years, and the days on which they begin.
use Rattle.calendar.proofs.Common.{◌≡◌, ◌+◌, ◌-◌, ◌*◌, ◌/◌, ◌≤◌, ◌≤ℤ◌, ◌<ℤ◌, ◌+ℤ◌, ◌-ℤ◌, ◌*ℤ◌, ℕ, zero, suc, ℤ, pos, negsuc, Bool, cond, sum, arith, add-one, refl, nat_tests, by_lt_z, ints, to_z-of_z, YearsFollow, month_lengths, first_day}
use Rattle.calendar.specs.LeapYears.{is_leap_year, is_multiple}
use Rattle.calendar.specs.Years.{days_after, days_before, days_in_year}
use Rattle.calendar.proofs.Remainders.{rem_zero}

-- ---- the days of years

-- what a function's goals about the multiples of a number need
pub ruleset multiples = (ints, to_z-of_z, nat_tests, rem_zero)

pub length_of : (leap : Bool) → sum (month_lengths leap) ≡ cond leap 366 365
length_of leap = grind arith

-- A year has 365 or 366 days.
pub length_range : (year : ℤ) → (365 ≤ days_in_year year) × (days_in_year year ≤ 366)
unfolding days_in_year
length_range year = rw length_of (grind arith)

-- what a function's goals about the length of a year need
pub ruleset year_steps = (ints, to_z-of_z, length_range)

one_year : (n : ℕ) → days_in_year (negsuc n) + (suc n / 100 + (n / 4 + n / 400)) ≡ 365 + (n / 100 + (suc n / 4 + suc n / 400))
unfolding days_in_year is_leap_year is_multiple
one_year n = rw length_of (grind (arith, nat_tests))

years_before : (n : ℕ) → days_before n + n / 100 ≡ 365 * n + (n / 4 + n / 400)
unfolding days_before
years_before zero = refl
years_before (suc n) = omega (arith, years_before n, one_year n)

-- years on both sides of year 0 are as long
years_after : (n : ℕ) → days_after (suc n) ≡ 366 + days_before n
unfolding days_after days_before days_in_year is_leap_year is_multiple
years_after zero = refl
years_after (suc n) =
    let mirrored : days_in_year (pos (suc n)) ≡ days_in_year (negsuc n) = refl in
    omega (arith, years_after n)

none_after : days_after 0 ≡ 0
unfolding days_after
none_after = refl

epoch : days_after 1970 ≡ 719528
epoch = omega (arith, years_after 1969, years_before 1969)

-- ---- the first day of a year

-- the next year begins after the days of the year
pub next_first_day : YearsFollow
unfolding days_after days_before
next_first_day (pos n) = rw (add-one n) (omega ints)
next_first_day (negsuc zero) = omega ints
next_first_day (negsuc (suc n)) =
    let next : negsuc (suc n) +ℤ pos 1 ≡ negsuc n = omega ints in
    rw next (omega ints)

-- the days of the first n years that begin on 1 March, from that of year 0 on
abbrev pub march_days : ℕ → ℕ
march_days n = 365 * n + n / 4 - n / 100 + n / 400

-- the first day after them, by eras of 400 years
pub in_era : (era : ℤ) (n : ℕ) (year : ℤ) → year ≡ pos 400 *ℤ era +ℤ pos n +ℤ pos 1
    → first_day year ≡ pos 146097 *ℤ era +ℤ pos (march_days n) -ℤ pos 719162
in_era era n (pos zero) e = omega (ints, epoch, none_after)
in_era era n (pos (suc m)) e = omega (ints, epoch, years_after m, years_before m)
in_era era n (negsuc m) e = omega (ints, epoch, years_before (suc m))

-- years are 146097/400 days long, but for a day or two
pub mean_length : (year : ℤ)
    → ((pos 146097 *ℤ (year -ℤ pos 1970)) ≤ℤ (pos 400 *ℤ first_day year +ℤ pos 506)) × ((pos 400 *ℤ first_day year) ≤ℤ (pos 146097 *ℤ (year -ℤ pos 1970) +ℤ pos 589))
mean_length (pos zero) = omega (ints, epoch, none_after)
mean_length (pos (suc n)) = omega (ints, epoch, years_after n, years_before n)
mean_length (negsuc n) = omega (ints, epoch, years_before (suc n))

-- a later year begins after the end of the year
pub later_year : (x y : ℤ) → x <ℤ y → first_day (x +ℤ pos 1) ≤ℤ first_day y
later_year x y less = by_lt_z (x +ℤ pos 1) y
    (λ apart. let long = mean_length (x +ℤ pos 1) in let short = mean_length y in omega ints)
    (λ next. let same : y ≡ x +ℤ pos 1 = omega ints in rw same (omega ints))
