use Rattle.theorems.proofs.Common.{◌≡◌, ◌-ℤ◌, ◌+ℤ◌, ℤ, pos, FitsSigned, MatchOption, Option, Some, None, if◌then◌else◌, w64, SomeIff, ◌∙◌, ap, arith, refl, ints, to_z-of_z, is_leap_year, day_number, days_in_year, lengths_of_years, years_follow}
use Rattle.calendar.specs.Years.{first_day}
use Rattle.theorems.proofs.dates.length_of_year.Goals as goal

counted : (o : Option ℤ) (P Q : Type 0) (year next days : ℤ) → Q → next ≡ year +ℤ pos 1
    → days ≡ day_number next 1 1 -ℤ day_number year 1 1 → SomeIff o (FitsSigned w64 days) days
    → MatchOption o P (λ d. Q × (d ≡ pos (if is_leap_year year then 366 else 365)))
counted None P Q year next days below after e h = grind (arith, lengths_of_years, ints, years_follow)
counted (Some d) P Q year next days below after e h =
    let length : days ≡ pos (days_in_year year) = omega (arith, ints, years_follow year, ap first_day after) in
    (below, h.1 ∙ (length ∙ ap pos (lengths_of_years year)))

pub returns : goal.returns
returns c =
    let year = c.ranges.year in
    let next = simp to_z-of_z at c.in_ok-checked_add.ensures in
    let fits : FitsSigned w64 c.in_ok-checked_add.field-0 = omega (arith, ints, next.0, next.1) in
    counted c.days_between.result _ _ c.args.year c.in_ok-checked_add.field-0 _ (λ last. omega (arith, ints, next.0, next.1, last)) next.1 refl (simp to_z-of_z at c.days_between.ensures)
