use Rattle.theorems.proofs.Common.{FitsSigned, w64, rules, to_z-of_z, rounded_even_is_only}
use Rattle.theorems.proofs.decimals.even_integer.Goals as goal

pub returns-clause-only : goal.returns-clause-only
returns-clause-only c =
    let fits : FitsSigned w64 c.round_even.result = search rules in
    rw (to_z-of_z w64 _ fits) (rounded_even_is_only _ _ c.round_even.result c.args.x.now.reduced.positive c.round_even.ensures)
