-- The loop tries the degrees up to 63. Below 2^64, a power of a higher degree is a square too.
use Rattle.applied.proofs.Common.{◌≡◌, arith, inl, inr, cases_lt, false≢true}
use Rattle.applied.proofs.PowersAndRoots.{high_power_is_square}
use Rattle.applied.proofs.powers.is_perfect_power.Goals as goal

pub loop-degree-preserved : goal.loop-degree-preserved
loop-degree-preserved c = λ d k two below e. elim (cases_lt d c.loop-degree.degree) [
  | inl lower ↦ c.loop-degree.invariant d k two lower e
  | inr same ↦ let this : d ≡ c.loop-degree.degree = omega arith in absurd (false≢true (c.if-is_power.ensures.1 (k, rw this at e)))
]

pub returns : goal.returns
returns c = grind (arith, false≢true, cases_lt, high_power_is_square, c.loop-degree.invariant)
