use Rattle.std.specs.Prelude.{◌≡◌, ◌+◌, ◌/◌, ◌%◌, ◌<◌, ℕ, IsSomeAnd, length, pos, slice_get}
use Rattle.calendar.specs.Dates.{IsMonthsAfter}
use Rattle.callers.proofs.everyday.payment_plan.Given as goal

-- the first payments
abbrev pub invariant-loop-k : goal.invariant-loop-k
invariant-loop-k l = (length l.plan.items ≡ l.k) × ((j : ℕ) → j < l.k → IsSomeAnd (slice_get l.plan.items j)
    (λ payment. IsMonthsAfter l.first (pos j) payment.due × (j ≡ 0 → payment.cents ≡ l.amount / l.count + l.amount % l.count) × (0 < j → payment.cents ≡ l.amount / l.count)))
