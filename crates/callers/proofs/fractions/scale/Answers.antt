use Rattle.callers.proofs.Common.{product_of_exact_results, reduced_is_exact, to_z-of_z, w64}
use Rattle.callers.proofs.fractions.scale.Goals as goal

pub returns : goal.returns
returns c =
    let share = rw (to_z-of_z w64 _ c.ranges.persons, to_z-of_z w64 _ c.ranges.servings) at c.new.ensures.fraction in
    product_of_exact_results (reduced_is_exact c.args.amount.reduced) (rw c.unwrap-share.ensures at share.exact) c.checked_mul.ensures.product
