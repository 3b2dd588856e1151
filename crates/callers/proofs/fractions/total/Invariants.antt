use Rattle.callers.proofs.Common.{IsExact, den_of, num_of, take}
use Rattle.callers.specs.Sums.{sum_of}
use Rattle.callers.proofs.fractions.total.Given as goal

-- the sum of the fractions so far
abbrev pub invariant-loop-fraction : goal.invariant-loop-fraction
invariant-loop-fraction l =
    let s = sum_of (take l.fraction-index l.fractions) in
    IsExact s.0 s.1 (num_of l.total) (den_of l.total)
