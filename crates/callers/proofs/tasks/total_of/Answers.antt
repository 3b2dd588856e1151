use Rattle.callers.proofs.Common.{arith, get_or, sum, sum_by-take-le, sum_by_more, take, ◌+◌, ◌≡◌, ◌≤◌}
use Rattle.callers.proofs.tasks.total_of.Goals as goal

pub returns-in_err-total : goal.returns-in_err-total
returns-in_err-total c = rw c.from_residual.ensures (λ fits.
    let xs = c.args.amounts.now in
    let i = c.loop-amount.amount-index in
    let more : sum (take (i + 1) xs) ≡ sum (take i xs) + get_or xs i 0 = sum_by_more (λ x. x) xs i 0 (omega arith) in
    let part : sum (take (i + 1) xs) ≤ sum xs = sum_by-take-le (λ x. x) xs (i + 1) in
    c.in_err-total.ensures (omega (arith, c.loop-amount.invariant.0)))
