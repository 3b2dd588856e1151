use Rattle.callers.proofs.Common.{FitsSigned, inr, rules, to_z-of_z, w64}
use Rattle.callers.proofs.lists.slope.Goals as goal

pub returns-clause-coprime : goal.returns-clause-coprime
returns-clause-coprime c =
    let rise : FitsSigned w64 c.args.rise = search rules in
    let run : FitsSigned w64 c.args.run = search rules in
    let first : FitsSigned w64 c.reduced.result.0 = search rules in
    let second : FitsSigned w64 c.reduced.result.1 = search rules in
    (simp to_z-of_z at c.reduced.ensures.reduced).coprime (inr c.requires)
