use Rattle.cellarcove_c.proofs.Common.{FitsSigned, w64, arith, rules, to_z-of_z}
use Rattle.cellarcove_c.proofs.IsoWeeks.{is_beyond, not_beyond}
use Rattle.cellarcove_c.proofs.dates.cellarcove_date_from_iso_week.Goals as goal

pub returns-in-Some-from_iso_week-clause-not_fitting : goal.returns-in-Some-from_iso_week-clause-not_fitting
returns-in-Some-from_iso_week-clause-not_fitting c =
    let found = c.in-Some-from_iso_week.found in
    let own = rw (to_z-of_z w64 c.args.year c.ranges.year) at c.in-Some-from_iso_week.ensures in
    let fits : FitsSigned w64 found.year = search rules in
    (λ same. absurd (omega (arith, same, c.some.ensures.status)), λ h. absurd (not_beyond c.in-Some.weekday found c.in-Some.ensures own fits h))

pub returns-in-None-from_iso_week-clause-not_fitting : goal.returns-in-None-from_iso_week-clause-not_fitting
returns-in-None-from_iso_week-clause-not_fitting c =
    let same = to_z-of_z w64 c.args.year c.ranges.year in
    let beyond = rw same at c.in-None-from_iso_week.ensures in
    let reason = rw same at c.reason_for_week.ensures.not_fitting in
    rw c.none.ensures (λ fits. is_beyond c.in-Some.weekday c.in-Some.ensures beyond (reason.0 fits), λ h. reason.1 (record { day = h.day; in_week = h.of_week.in_week }))
