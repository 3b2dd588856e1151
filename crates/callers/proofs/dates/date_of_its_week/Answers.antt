use Rattle.callers.proofs.Common.{Date, FitsSigned, IfSome, IsDayOfIsoWeek, MatchOption, None, Option, Some, Weekday, date_is_only, iso_day_is_only, number_of, rules, to_z-of_z, w64, ℕ, ℤ, ◌≡◌}
use Rattle.callers.proofs.dates.date_of_its_week.Goals as goal

same_date : (o : Option Date) (P : Type 0) (date : Date) (year : ℤ) (week : ℕ) (weekday : Weekday)
    → IsDayOfIsoWeek (number_of date) year week weekday
    → MatchOption o P (λ again. IsDayOfIsoWeek (number_of again) year week weekday)
    → IfSome o (λ again. again ≡ date)
same_date None P date year week weekday own none = tt
same_date (Some again) P date year week weekday own found = date_is_only again date (iso_day_is_only (number_of again) (number_of date) year week weekday found own)

pub returns : goal.returns
returns c =
    let week = c.in_ok-week.week in
    let year : FitsSigned w64 week.year = search rules in
    let own : IsDayOfIsoWeek (number_of c.args.date.now) week.year week.week c.weekday.result = record {
      in_week = c.in_ok-week.ensures.week;
      has_weekday = c.weekday.ensures;
    } in
    same_date c.from_iso_week.result _ c.args.date.now week.year week.week c.weekday.result own (simp to_z-of_z at c.from_iso_week.ensures)
