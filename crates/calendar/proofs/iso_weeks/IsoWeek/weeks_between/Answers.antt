use Rattle.calendar.proofs.Common.{◌-ℤ◌, FitsSigned, w128, ints, refl, rules, to_z-of_z, IsWeeksAfter}
use Rattle.calendar.proofs.FoundOrBeyond.{found_or_beyond}
use Rattle.calendar.proofs.IsoWeeks.{weeks_of_days}
use Rattle.calendar.proofs.iso_weeks.IsoWeek.weeks_between.Goals as goal

pub overflow_sub-days : goal.overflow_sub-days
overflow_sub-days c =
    let to : FitsSigned w128 c.wide_day_number.result = search rules in
    let from : FitsSigned w128 c.wide_day_number-2.result = search rules in
    simp to_z-of_z (omega (ints, c.wide_day_number.ensures.small, c.wide_day_number-2.ensures.small))

pub returns : goal.returns
returns c =
    let to : FitsSigned w128 c.wide_day_number.result = search rules in
    let from : FitsSigned w128 c.wide_day_number-2.result = search rules in
    let days : FitsSigned w128 (c.wide_day_number.result -ℤ c.wide_day_number-2.result) =
    omega (ints, c.wide_day_number.ensures.small, c.wide_day_number-2.ensures.small) in
    let weeks : FitsSigned w128 c.div_floor.result = search rules in
    let own = c.args.self.now in
    let other = c.args.to.now in
    let apart = weeks_of_days {days = c.wide_day_number.result -ℤ c.wide_day_number-2.result} {weeks = c.div_floor.result} c.thursday-2.ensures c.thursday.ensures (rw (c.wide_day_number.ensures.value, c.wide_day_number-2.ensures.value) refl) refl refl (simp to_z-of_z at c.div_floor.ensures.floored) in
    found_or_beyond (λ weeks. IsWeeksAfter own.year own.week weeks other.year other.week) c.narrowed.result (simp to_z-of_z at c.narrowed.ensures) apart
