use Rattle.theorems.proofs.Common.{to_z-of_z, number_of, easter_is_only}
use Rattle.theorems.proofs.dates.easter_is_unique.Goals as goal

pub returns-clause-easter : goal.returns-clause-easter
returns-clause-easter c =
    let year = c.ranges.year in
    simp to_z-of_z at c.easter.ensures.easter

pub returns-clause-only : goal.returns-clause-only
returns-clause-only c = λ day h. easter_is_only c.args.year day (number_of c.easter.result) h (returns-clause-easter c)
