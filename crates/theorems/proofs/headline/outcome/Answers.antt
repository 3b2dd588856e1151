use Rattle.intcalc_core.proofs.OnlyOutcome.{only_outcome}
use Rattle.theorems.proofs.headline.outcome.Goals as goal

pub returns-clause-only : goal.returns-clause-only
returns-clause-only c = only_outcome c.args.kind c.args.call c.evaluate.result c.evaluate.ensures
