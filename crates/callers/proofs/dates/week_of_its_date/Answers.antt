use Rattle.callers.proofs.Common.{FitsSigned, IfSome, IsInIsoWeek, IsoWeek, MatchOption, None, Option, Some, iso_week_is_only, iso_week_of_numbers_is_only, rules, to_z-of_z, w64, ℤ, ◌≡◌}
use Rattle.callers.proofs.dates.week_of_its_date.Goals as goal

same_week : (o : Option IsoWeek) (P : Type 0) (day : ℤ) (week : IsoWeek) → IsInIsoWeek day week.year week.week
    → MatchOption o P (λ found. IsInIsoWeek day found.year found.week) → IfSome o (λ again. again ≡ week)
same_week None P day week own none = tt
same_week (Some again) P day week own found = let same = iso_week_is_only day _ _ _ _ found own in iso_week_of_numbers_is_only again week same.0 same.1

pub returns : goal.returns
returns c =
    let year : FitsSigned w64 c.args.week.now.year = search rules in
    same_week c.iso_week.result _ _ c.args.week.now (simp to_z-of_z at c.in_ok-from_iso_week.ensures).in_week c.iso_week.ensures.week
