-- Dates some months apart.
use Rattle.calendar.proofs.Common.{floored_exists, ◌≡◌, ◌<◌, ◌≤◌, ◌+◌, ◌≤ℤ◌, ◌<ℤ◌, ◌+ℤ◌, ◌-ℤ◌, ◌*ℤ◌, ℕ, ℤ, pos, min, unsigned_abs, ◌∙◌, arith, inl, inr, refl, sym, cases_lt, by_lt_z, ints, floored_quotient_range, linear, IsFloored, IsQuotient, IsMonthsAfter, IsMonthsBetween, IsYearsBetween, number_of, days_in_month, month_number, Date}
use Rattle.calendar.proofs.DateOrder.{of_parts, order}
use Rattle.calendar.proofs.MonthLengths.{date_of, month_length_range}
use Rattle.calendar.specs.Laws as law

-- ---- months by their numbers

-- Dates of one month number are of one year and month.
pub same_month : (a b : Date) → month_number a.year a.month ≡ month_number b.year b.month → (a.year ≡ b.year) × (a.month ≡ b.month)
same_month a b same = omega ints

-- A date of a later month is later.
pub later_month : (a b : Date) → month_number a.year a.month <ℤ month_number b.year b.month → number_of a <ℤ number_of b
later_month a b less = (order a b).0 (by_lt_z a.year b.year (λ years. inl years) (λ rest. inr (omega ints, inl (omega ints))))

-- the quotient of a number by 12 is its year, and the remainder tells the month
module _ {number year rest : ℤ} (h : IsFloored number (pos 12) year rest) where
  rest_range : (pos 0 ≤ℤ rest) × (rest <ℤ pos 12)
  rest_range = grind arith

  pub month_found : (1 ≤ unsigned_abs rest + 1) × (unsigned_abs rest + 1 ≤ 12) × (month_number year (unsigned_abs rest + 1) ≡ number)
  month_found = (omega arith, omega (ints, rest_range), omega (ints, rest_range, h.division))

  pub only_year : {other : ℤ} {month : ℕ} → 1 ≤ month → month ≤ 12 → month_number other month ≡ number → other ≡ year
  only_year from to is = omega (ints, rest_range, h.division)

-- ---- the date some months after another

-- Each date has a date any number of months after it.
pub months_after_exists : law.MonthsAfterExists
months_after_exists from months =
    let (year, rest, division) = floored_exists (month_number from.year from.month +ℤ months) (pos 12) (omega ints) in
    let (month_from, month_to, is) = month_found division in
    let month = unsigned_abs rest + 1 in
    let (length, most) = month_length_range year month month_from month_to in
    let date : Date = date_of year month (min from.day_of_month (days_in_month year month)) month_from month_to (omega (arith, from.valid.day_from_one)) (omega arith) in
    (date, record { month_is = is; day_is = refl })

pub only_months_after : law.MonthsAfterIsOnly
only_months_after from months a b h k =
    let (year, month) = same_month a b (h.month_is ∙ sym k.month_is) in
    of_parts a b year month (rw (year, month) at h.day_is ∙ sym k.day_is)

-- More months lead to no earlier date.
pub months_in_order : {from a b : Date} {m n : ℤ} → m ≤ℤ n → IsMonthsAfter from m a → IsMonthsAfter from n b → number_of a ≤ℤ number_of b
months_in_order {from} {a} {b} {m} {n} less h k = by_lt_z m n
    (λ more. omega (ints, later_month a b (omega (ints, h.month_is, k.month_is))))
    (λ rest. let same : n ≡ m = omega ints in rw (only_months_after from m a b h (rw same at k)) (omega ints))

-- ---- the months from a date to another

-- so many, if one more is too many
months_of : {from to : Date} (months : ℤ) → ((date : Date) → IsMonthsAfter from months date → number_of date ≤ℤ number_of to)
    → ((date : Date) → IsMonthsAfter from (months +ℤ pos 1) date → number_of to <ℤ number_of date) → IsMonthsBetween from to months
months_of {from} {to} months reached next =
    let (date, is_after) = months_after_exists from months in
    let (later, is_later) = months_after_exists from (months +ℤ pos 1) in
    record {
      holds = record { date = date; is_after = is_after; not_later = reached date is_after };
      greatest = λ other h. grind (linear, next later is_later, λ (more : (months +ℤ pos 1) ≤ℤ other). months_in_order more is_later h.is_after);
    }

-- the date in the month of another
in_month : (from to date : Date) → IsMonthsAfter from (month_number to.year to.month -ℤ month_number from.year from.month) date
    → number_of date +ℤ pos to.day_of_month ≡ number_of to +ℤ pos (min from.day_of_month (days_in_month to.year to.month))
in_month from to date h =
    let (year, month) = same_month date to (omega (ints, h.month_is)) in
    rw (h.day_is, year, month) (omega ints)

pub whole_months : (from to : Date) (months : ℤ) → months ≡ month_number to.year to.month -ℤ month_number from.year from.month
    → min from.day_of_month (days_in_month to.year to.month) ≤ to.day_of_month → IsMonthsBetween from to months
whole_months from to months is late = months_of months
    (λ date h. omega (ints, in_month from to date (rw is at h)))
    (λ date h. later_month to date (omega (ints, h.month_is)))

pub month_less : (from to : Date) (months : ℤ) → months ≡ month_number to.year to.month -ℤ month_number from.year from.month -ℤ pos 1
    → to.day_of_month < min from.day_of_month (days_in_month to.year to.month) → IsMonthsBetween from to months
month_less from to months is early = months_of months
    (λ date h. omega (ints, later_month date to (omega (ints, h.month_is))))
    (λ date h. let more : months +ℤ pos 1 ≡ month_number to.year to.month -ℤ month_number from.year from.month = omega ints in omega (ints, in_month from to date (rw more at h)))

pub only_months_between : law.MonthsBetweenIsOnly
only_months_between from to a b h k = omega (linear, h.greatest b k.holds, k.greatest a h.holds)

-- There is a number of whole months from each date to each other.
pub months_between_exist : (from to : Date) → (months : ℤ) × IsMonthsBetween from to months
months_between_exist from to = elim (cases_lt to.day_of_month (min from.day_of_month (days_in_month to.year to.month))) [
  | inl early ↦ (_, month_less from to _ refl early)
  | inr late ↦ (_, whole_months from to _ refl late)
]

-- One month more than those leads beyond the second date.
pub next_month_is_later : {from to date : Date} {months : ℤ} → IsMonthsBetween from to months → IsMonthsAfter from (months +ℤ pos 1) date
    → number_of to <ℤ number_of date
next_month_is_later {from} {to} {date} {months} h k =
    grind (linear, λ (rest : number_of date ≤ℤ number_of to). h.greatest (months +ℤ pos 1) (record { date = date; is_after = k; not_later = rest }))

-- whole years are a twelfth of the whole months, rounded down
pub whole_years : {from to : Date} {months years given quotient : ℤ} → given ≡ months → years ≡ quotient → IsMonthsBetween from to months
    → IsQuotient IsFloored given (pos 12) quotient → IsYearsBetween from to years
whole_years {from} {to} {months} {years} same whole h quotient =
    let (low, high) = floored_quotient_range quotient in
    let (date, is_after) = months_after_exists from (pos 12 *ℤ years) in
    record {
      holds = record { date = date; is_after = is_after; not_later = grind (ints, λ (less : (pos 12 *ℤ years) ≤ℤ months). months_in_order less is_after h.holds.is_after) };
      greatest = λ more k. omega (ints, h.greatest (pos 12 *ℤ more) k);
    }

-- of which there is only one
pub only_years_between : law.YearsBetweenIsOnly
only_years_between from to a b h k = omega (linear, h.greatest b k.holds, k.greatest a h.holds)
