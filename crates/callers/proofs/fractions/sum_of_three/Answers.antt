use Rattle.callers.proofs.Common.{err_is_outside, nonzero_product, ok_is_inside, positive_is_nonzero, reduced_is_exact, sum_of_exact_results}
use Rattle.callers.proofs.fractions.sum_of_three.Goals as goal

pub returns-in_err-checked_add-clause-inside : goal.returns-in_err-checked_add-clause-inside
returns-in_err-checked_add-clause-inside c = λ inside.
    let nonzero = nonzero_product (positive_is_nonzero c.args.x.now.reduced.positive) (positive_is_nonzero c.args.y.now.reduced.positive) in
    absurd (inside (err_is_outside _ nonzero c.in_err-checked_add.ensures.sum))

pub returns-clause-outside : goal.returns-clause-outside
returns-clause-outside c = λ far. absurd (ok_is_inside c.in_ok-checked_add.ensures.sum far)

pub returns-clause-inside : goal.returns-clause-inside
returns-clause-inside c = λ _. sum_of_exact_results c.in_ok-checked_add.ensures.sum.exact (reduced_is_exact c.args.z.now.reduced) c.checked_add-2.ensures.sum
