use Rattle.applied.proofs.Common.{◌≢◌, ◌≤◌, ◌<◌, ℕ, ℤ, pos, int_pow}
use Rattle.applied.proofs.powers.is_perfect_power.Given as goal

-- the number is no power of a degree that was tried
abbrev pub invariant-loop-degree : goal.invariant-loop-degree
invariant-loop-degree l = (d : ℕ) (k : ℤ) → 2 ≤ d → d < l.degree → int_pow k d ≢ pos l.n
