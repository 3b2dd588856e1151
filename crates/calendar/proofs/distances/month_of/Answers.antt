use Rattle.calendar.proofs.Common.{ints}
use Rattle.calendar.proofs.MonthSteps.{month_found, only_year}
use Rattle.calendar.proofs.distances.month_of.Goals as goal

pub returns-in_err-narrowed : goal.returns-in_err-narrowed
returns-in_err-narrowed c = rw c.from_residual.ensures (λ year month from to is fits.
    let same = only_year c.div_mod_floor-year.ensures.floored {other = year} from to (omega ints) in
    c.in_err-narrowed.ensures (omega ints))

pub returns : goal.returns
returns c = omega (ints, month_found c.div_mod_floor-year.ensures.floored, c.in_ok-narrowed.ensures)
