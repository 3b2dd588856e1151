use Rattle.intcalc_core.proofs.WordsLemmas.{words_at}
use Rattle.intcalc_core.proofs.words.read_call.Goals as goal

pub returns-in-len4 : goal.returns-in-len4
returns-in-len4 c = rw (← words_at 4 c.args.operands.now _ c.in-len4.len_at_least c.in-len4.len_below) at c.read_call_of_four.ensures
