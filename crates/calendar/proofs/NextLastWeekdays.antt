-- The dates that are the last of a day of the week in their months, one after the other.
use Rattle.calendar.proofs.Common.{ap, inl, ◌∙◌, refl, cases_lt, ◌≡◌, ◌<◌, ◌≤◌, ◌≤ℤ◌, ◌+ℤ◌, ℕ, ℤ, pos, FitsSigned, w64, arith, inr, subst, sym, ints, linear, IsLastWeekdayOfMonth, IsMonthsAfter, IsNextLastWeekday, number_of, NextLastWeekdayExists, NextLastWeekdayIsOnly, month_number, Date, Weekday}
use Rattle.calendar.proofs.DateOrder.{only_date, order}
use Rattle.calendar.proofs.MonthSteps.{later_month, months_after_exists, same_month}
use Rattle.calendar.proofs.MonthWeekdays.{last_in_month}

-- ---- those of two months

-- The last of a day of the week in a month is not before that of the same month or of an earlier one.
pub last_weekdays_in_order : {a b : Date} {weekday : Weekday} → IsLastWeekdayOfMonth a.year a.month weekday a
    → IsLastWeekdayOfMonth b.year b.month weekday b
    → month_number a.year a.month ≤ℤ month_number b.year b.month → number_of a ≤ℤ number_of b
last_weekdays_in_order {a} {b} h k months = grind (linear, later_month a b, same_month a b, k.last a)

-- the last of its month is the last of its own month
own_month : {year : ℤ} {month : ℕ} {weekday : Weekday} {date : Date} → IsLastWeekdayOfMonth year month weekday date
    → IsLastWeekdayOfMonth date.year date.month weekday date
own_month {year} {month} {weekday} {date} h = grind arith

-- ---- the next one

-- the last of a day of the week in the month of a date
module _ (after this : Date) {year : ℤ} {weekday : Weekday} (same : year ≡ after.year) (h : IsLastWeekdayOfMonth year after.month weekday this) where
  -- is the next one, if it is on a later day
  pub of_this_month : after.day_of_month < this.day_of_month → IsNextLastWeekday after weekday this
  of_this_month later = record {
    later = (order after this).0 (inr (sym (h.of_month.year_is ∙ same), inr (sym h.of_month.month_is, later)));
    last = own_month h;
    first =
        λ other beyond k. last_weekdays_in_order (own_month h) k (grind (ints, h.of_month, later_month other after));
  }

  -- and else that of the next month is
  pub of_next_month : (next : Date) {y : ℤ} {month : ℕ} → this.day_of_month ≤ after.day_of_month → IsLastWeekdayOfMonth y month weekday next
      → month_number y month ≡ month_number after.year after.month +ℤ pos 1 → IsNextLastWeekday after weekday next
  of_next_month next early k is =
      let past : number_of this ≤ℤ number_of after = rw (h.of_month.year_is, same, h.of_month.month_is) (omega ints) in
      record {
        later = later_month after next (omega (ints, k.of_month));
        last = own_month k;
        first = λ other beyond l. last_weekdays_in_order (own_month k) l (grind (ints, h.of_month, k.of_month, last_weekdays_in_order l (own_month h)));
      }

-- After each date comes a date that is the last of a day of the week in its month.
pub next_last_weekday_exists : NextLastWeekdayExists
next_last_weekday_exists after weekday =
    let (this, h) = last_in_month after weekday in
    let (later, is_after) = months_after_exists after (pos 1) in
    let (next, k) = last_in_month later weekday in
    elim (cases_lt after.day_of_month this.day_of_month) [
      | inl less ↦ (this, of_this_month after this refl h less)
      | inr past ↦ (next, of_next_month after this refl h next past k is_after.month_is)
    ]

pub only_next_last : NextLastWeekdayIsOnly
only_next_last after weekday a b h k = only_date a b (omega (linear, h.first b k.later k.last, k.first a h.later h.last))

-- if the year of no date of the next month fits, that of the next one does not
pub beyond_fits : (after this : Date) {year : ℤ} {weekday : Weekday} → year ≡ after.year → IsLastWeekdayOfMonth year after.month weekday this
    → this.day_of_month ≤ after.day_of_month
    → ((date : Date) → IsMonthsAfter after (pos 1) date → ¬ (FitsSigned w64 date.year)) → (date : Date) → IsNextLastWeekday after weekday date
    → ¬ (FitsSigned w64 date.year)
beyond_fits after this {weekday = weekday} same h past none date is fits =
    let (later, is_after) = months_after_exists after (pos 1) in
    let (next, k) = last_in_month later weekday in
    let found = only_next_last after weekday date next is (of_next_month after this same h next past k is_after.month_is) in
    none later is_after (subst (FitsSigned w64) (ap (λ (d : Date). d.year) found ∙ k.of_month.year_is) fits)
