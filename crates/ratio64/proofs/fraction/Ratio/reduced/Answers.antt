use Rattle.std.proofs.Common.{rules}
use Rattle.ratio64.proofs.FractionAnswers.{exact_answer}
use Rattle.ratio64.proofs.fraction.Ratio.reduced.Goals as goal

pub returns : goal.returns
returns c = exact_answer _ (search rules) (search rules) (search rules)
