use Rattle.calendar.proofs.Laws.{order_of_iso_weeks}
use Rattle.callers.proofs.dates.is_in_earlier_week.Goals as goal

pub returns : goal.returns
returns c =
    let later = order_of_iso_weeks _ _ _ _ _ _ c.in_ok-week.ensures.week c.in_ok-other.ensures.week in
    (_, _, _, _, c.in_ok-week.ensures.week, c.in_ok-other.ensures.week, c.is_earlier_week.ensures, λ earlier. later (c.is_earlier_week.ensures.0 earlier))
