use Rattle.ratio64.proofs.Common.{rules, w64, to_z-of_z, num_of, den_of}
use Rattle.ratio64.proofs.ReducedParts.{remainder_reduced}
use Rattle.ratio64.proofs.fraction.Ratio.fract.Goals as goal

pub div_rem-rest-requires-clause-quotient_fits : goal.div_rem-rest-requires-clause-quotient_fits
div_rem-rest-requires-clause-quotient_fits c = search rules

pub invariant_of-result : goal.invariant_of-result
invariant_of-result c =
    let x = c.args.self.now in
    let num = to_z-of_z w64 (num_of x) (search rules) in
    let den = to_z-of_z w64 (den_of x) (search rules) in
    let rest = to_z-of_z w64 c.div_rem-rest.result.1 (search rules) in
    let truncated = rw (num, den) at c.div_rem-rest.ensures.truncated in
    record { reduced = rw (rest, den) (remainder_reduced c.div_rem-rest.result.0 x.reduced truncated.division.equation) }
