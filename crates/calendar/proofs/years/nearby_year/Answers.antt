use Rattle.calendar.proofs.Common.{by_lt_z, ◌≡◌, ◌+ℤ◌, ◌≤ℤ◌, pos, w64, of_z, to_z, ints, to_z-of_z}
use Rattle.calendar.specs.Years.{days_in_year}
use Rattle.calendar.proofs.IsoWeeks.{earlier, later}
use Rattle.calendar.proofs.YearLengths.{length_range, next_first_day}
use Rattle.calendar.proofs.years.nearby_year.Goals as goal

pub returns-in_err-before : goal.returns-in_err-before
returns-in_err-before c =
    rw c.from_residual.ensures (λ y h fits.
    let less = earlier {year = c.args.year} h (omega ints) in
    c.in_err-before.ensures (omega ints))

pub returns-in_err-after : goal.returns-in_err-after
returns-in_err-after c =
    let over : pos (days_in_year c.args.year) ≤ℤ c.args.days = grind (ints, to_z-of_z, c.if-is_longer_than.ensures) in
    rw c.from_residual-in_err-after.ensures (λ y h fits.
    let more = later {year = c.args.year} h (omega (ints, next_first_day c.args.year)) in
    c.in_err-after.ensures (omega ints))

pub returns-in_ok-before : goal.returns-in_ok-before
returns-in_ok-before c =
    let before = to_z w64 (of_z w64 c.in_ok-before.before) in
    let same : before +ℤ pos 1 ≡ c.args.year = omega (ints, c.in_ok-before.ensures) in
    omega (ints, rw same at (next_first_day before), c.length_of.ensures)

pub returns-in_ok-after : goal.returns-in_ok-after
returns-in_ok-after c =
    let inside = (rw (to_z-of_z w64 c.args.year c.ranges.year) at c.if-is_longer_than.ensures).1 in
    let over : pos (days_in_year c.args.year) ≤ℤ c.args.days =
    by_lt_z c.args.days (pos (days_in_year c.args.year)) (λ less. let clash = inside (omega ints) in (cc)) (λ far. far) in
    let after : to_z w64 (of_z w64 c.in_ok-after.after) ≡ c.args.year +ℤ pos 1 = omega (ints, c.in_ok-after.ensures) in
    let length = rw (to_z-of_z w64 c.args.year c.ranges.year) at c.length_of-else-is_longer_than.ensures.value in
    rw after (omega (ints, over, length, next_first_day c.args.year, length_range (c.args.year +ℤ pos 1)))
