use Rattle.std.specs.Prelude.{◌≤◌, ◌+◌, ◌*◌}
use Rattle.callers.proofs.dates.days_of_months.Given as goal

abbrev pub invariant-loop-month : goal.invariant-loop-month
invariant-loop-month l = (28 * l.month ≤ l.days + 28) × (l.days + 31 ≤ 31 * l.month)
