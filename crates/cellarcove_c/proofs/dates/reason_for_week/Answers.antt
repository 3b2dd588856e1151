use Rattle.cellarcove_c.proofs.Common.{◌≤◌, w64, arith, inl, inr, refl, rules, to_z-of_z, HasIsoWeek}
use Rattle.cellarcove_c.proofs.IsoWeeks.{has_week}
use Rattle.cellarcove_c.proofs.dates.reason_for_week.Goals as goal

pub returns-then-contains : goal.returns-then-contains
returns-then-contains c =
    let inside : (1 ≤ c.args.week) × (c.args.week ≤ c.weeks_in_year.result) = search rules in
    let week = (has_week (rw (to_z-of_z w64 c.args.year c.ranges.year) at c.weeks_in_year.ensures.weeks)).1 inside in
    record { no_date = (λ e _. absurd (omega (arith, e)), λ none. absurd (none week)); not_fitting = (λ _. week, λ _. refl); refusal = inr refl }

pub returns-else-contains : goal.returns-else-contains
returns-else-contains c =
    let weeks = rw (to_z-of_z w64 c.args.year c.ranges.year) at c.weeks_in_year.ensures.weeks in
    let none : ¬ (HasIsoWeek c.args.year c.args.week) = λ h. let (from, to) = (has_week weeks).0 h in search rules in
    record { no_date = (λ _. none, λ _. refl); not_fitting = (λ same. absurd (omega (arith, same)), λ h. absurd (none h)); refusal = inl refl }
