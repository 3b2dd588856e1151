use Rattle.callers.proofs.Common.{refl, to_z-of_z, w64, weeks_of_a_year}
use Rattle.callers.proofs.dates.week_of_year.Goals as goal

pub returns : goal.returns
returns c =
    let day = rw (to_z-of_z w64 _ c.ranges.year) at c.in_ok-_thursday.ensures in
    let range = weeks_of_a_year _ c.args.year c.args.week day.in_week in
    (record { day = _; in_week = day.in_week }, refl, range.0, range.1)
