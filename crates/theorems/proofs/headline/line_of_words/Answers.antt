use Rattle.intcalc_core.proofs.OnlyLine.{only_line}
use Rattle.theorems.proofs.headline.line_of_words.Goals as goal

pub returns-clause-only : goal.returns-clause-only
returns-clause-only c = only_line c.line_for.ensures.line
