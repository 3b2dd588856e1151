use Rattle.callers.proofs.Common.{ceiled_in_parts, err_is_outside, ok_is_inside, positive_is_nonzero, product_positive, to_z-of_z, w64}
use Rattle.callers.proofs.tasks.scaled.Goals as goal

pub returns-in_err-checked_times-clause-inside : goal.returns-in_err-checked_times-clause-inside
returns-in_err-checked_times-clause-inside c = λ inside.
    let product = rw (to_z-of_z w64 _ c.ranges.servings, to_z-of_z w64 _ c.ranges.serves) at c.in_err-checked_times.ensures.product in
    let up = product_positive _ _ c.requires c.args.amount.now.reduced.positive in
    absurd (inside (err_is_outside _ (positive_is_nonzero up) product))

pub returns : goal.returns
returns c =
    let product = rw (to_z-of_z w64 _ c.ranges.servings, to_z-of_z w64 _ c.ranges.serves) at c.in_ok-checked_times.ensures.product in
    let up = product_positive _ _ c.requires c.args.amount.now.reduced.positive in
    record { outside = λ far. absurd (ok_is_inside product far); inside = λ _. ceiled_in_parts up product.exact c.ceil_to.ensures.ceiled }
