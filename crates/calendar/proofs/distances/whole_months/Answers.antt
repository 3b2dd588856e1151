use Rattle.calendar.proofs.Common.{arith, refl, ints}
use Rattle.calendar.proofs.MonthSteps.{month_less, whole_months}
use Rattle.calendar.proofs.distances.whole_months.Goals as goal

pub returns-then-ends_in_part_of_month : goal.returns-then-ends_in_part_of_month
returns-then-ends_in_part_of_month c = month_less c.args.from.now c.args.to.now _ (omega ints) (c.if-ends_in_part_of_month.ensures.0 refl)

pub returns-else-ends_in_part_of_month : goal.returns-else-ends_in_part_of_month
returns-else-ends_in_part_of_month c =
    whole_months c.args.from.now c.args.to.now _ (omega ints) (grind (arith, c.if-ends_in_part_of_month.ensures))
