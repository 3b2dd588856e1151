use Rattle.intcalc_core.proofs.OnlyLine.{only_request}
use Rattle.theorems.proofs.headline.call_of_words.Goals as goal

pub returns-clause-only : goal.returns-clause-only
returns-clause-only c = λ other h. only_request _ other c.read_words.result h c.read_words.ensures
