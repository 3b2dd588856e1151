-- The weeks of a year, and their days.
use Rattle.cellarcove_c.proofs.Common.{◌≡◌, ◌↔◌, ◌+◌, ◌-◌, ◌≤◌, ◌-ℤ◌, ◌*ℤ◌, ℕ, ℤ, pos, FitsSigned, w64, ◌∙◌, arith, subst, sym, ints, number_of, HasIsoWeek, HasIsoWeeks, IsDayOfIsoWeek, IsInIsoWeek, iso_number, HasDay, Date, Weekday, in_its_year, weeks_apart, iso_day_exists, iso_day_is_only, iso_number_is_only, weeks_of_a_year, IsDayBeyond}

-- ---- weeks

-- if a year has week w, it has each week from 1 to w
earlier_week : {day year : ℤ} {week : ℕ} (n : ℕ) → 1 ≤ week → IsInIsoWeek day year (week + n) → HasIsoWeek year week
earlier_week n from h =
    let thursday = h.thursday -ℤ pos 7 *ℤ pos n in
    record {
      day = thursday;
      in_week = record {
        thursday = thursday;
        of_week = record {
          has_weekday = weeks_apart (pos 0 -ℤ pos n) (omega (arith, ints)) h.of_week.has_weekday;
          from = omega (arith, ints);
          to = omega (arith, ints);
        };
        of_year = record { from = omega (arith, ints, h.from); before = omega (arith, ints, h.of_year.before) };
        from = omega (arith, ints, h.from);
        before = omega (arith, ints, h.before);
      };
    }

-- it has those up to the last and no other
pub has_week : {year : ℤ} {weeks week : ℕ} → HasIsoWeeks year weeks → HasIsoWeek year week ↔ ((1 ≤ week) × (week ≤ weeks))
has_week {year} {weeks} {week} h = (
  λ k. ((weeks_of_a_year k.day year week k.in_week).0, h.no_later k.day week k.in_week),
  λ (from, to).
      let apart : weeks ≡ week + (weeks - week) = omega arith in
      earlier_week (weeks - week) from (subst (λ (n : ℕ). IsInIsoWeek h.day year n) apart h.in_last),
)

-- ---- days

-- a week of the year that has no date in a year that fits has its day beyond
pub is_beyond : {year : ℤ} {week number : ℕ} (weekday : Weekday) → iso_number weekday ≡ number
    → ((day y : ℤ) → IsDayOfIsoWeek day year week weekday → HasDay y day → ¬ (FitsSigned w64 y)) → HasIsoWeek year week → IsDayBeyond year week number
is_beyond {year} {week} weekday same beyond h =
    let (day, own) = iso_day_exists year week weekday h in
    record { day = day; day_of_week = weekday; number = same; of_week = own; beyond = λ y k. beyond day y own k }

-- and one that has a date has not
pub not_beyond : {year : ℤ} {week number : ℕ} (weekday : Weekday) (date : Date) → iso_number weekday ≡ number
    → IsDayOfIsoWeek (number_of date) year week weekday
    → FitsSigned w64 date.year → ¬ (IsDayBeyond year week number)
not_beyond {year} {week} weekday date same own fits = λ h.
    let weekday_is = iso_number_is_only h.day_of_week weekday (h.number ∙ sym same) in
    let day = iso_day_is_only h.day (number_of date) year week weekday (subst (λ (d : Weekday). IsDayOfIsoWeek h.day year week d) weekday_is h.of_week) own in
    h.beyond date.year (subst (λ (t : ℤ). HasDay date.year t) (sym day) (in_its_year date)) fits
