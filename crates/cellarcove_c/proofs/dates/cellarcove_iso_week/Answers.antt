use Rattle.cellarcove_c.proofs.dates.cellarcove_iso_week.Goals as goal

pub returns-in-None-iso_week-clause-not_fitting : goal.returns-in-None-iso_week-clause-not_fitting
returns-in-None-iso_week-clause-not_fitting c = λ _ year week h.
    c.in-None-iso_week.ensures.week year week (rw c.in-Some.ensures.2 h)
