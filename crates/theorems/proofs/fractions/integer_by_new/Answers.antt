use Rattle.theorems.proofs.Common.{w64, to_z-of_z, only_exact_result, whole_is_exact}
use Rattle.theorems.proofs.fractions.integer_by_new.Goals as goal

pub returns : goal.returns
returns c =
    let answer = rw (to_z-of_z w64 _ c.ranges.number) at c.new.ensures.fraction in
    let parts = only_exact_result (rw c.unwrap.ensures at answer.exact) (whole_is_exact c.args.number) in
    record { num = parts.0; den = parts.1 }
