use Rattle.theorems.proofs.Common.{FitsSigned, w64, rules, to_z-of_z, err_is_outside, exact_result_is_only, IsExact}
use Rattle.theorems.proofs.fractions.exact_parts.Goals as goal

pub returns-in-Err-clause-parts : goal.returns-in-Err-clause-parts
returns-in-Err-clause-parts c = search (rules, to_z-of_z, err_is_outside)

pub returns-in-Ok-clause-only : goal.returns-in-Ok-clause-only
returns-in-Ok-clause-only c =
    let answer = rw (to_z-of_z w64 _ c.ranges.num, to_z-of_z w64 _ c.ranges.den) at c.in-Ok.ensures.fraction in
    let exact : IsExact c.args.num c.args.den c.num.result c.den.result = rw (c.num.ensures, c.den.ensures) answer.exact in
    let num_fits : FitsSigned w64 c.num.result = search rules in
    let den_fits : FitsSigned w64 c.den.result = search rules in
    rw (to_z-of_z w64 _ num_fits, to_z-of_z w64 _ den_fits) (exact_result_is_only _ _ _ _ exact)
