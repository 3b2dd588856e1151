use Rattle.callers.proofs.Common.{months_after_exists, pos, refl}
use Rattle.callers.proofs.dates.has_no_date_a_month_later.Goals as goal

pub returns-in-None : goal.returns-in-None
returns-in-None c = (λ none. let (later, is) = months_after_exists c.args.date.now (pos 1) in (later, is, c.in-None.ensures later is), λ far. refl)
