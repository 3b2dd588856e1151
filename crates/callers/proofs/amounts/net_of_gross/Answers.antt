use Rattle.callers.proofs.Common.{FitsSigned, arith, ints, narrowed, nearest_even_quotient_is_only, none_narrower, pos, to_z-of_z, w128, w64, ℤ, ◌*ℤ◌, ◌+ℤ◌}
use Rattle.callers.proofs.amounts.net_of_gross.Goals as goal

-- the numbers, and the dividend and the divisor, fit in 128 bits
wide : {gross rate : ℤ} → FitsSigned w64 gross → FitsSigned w64 rate
    → FitsSigned w64 gross × FitsSigned w64 rate × FitsSigned w128 gross × FitsSigned w128 rate × FitsSigned w128 (gross *ℤ pos 100) × FitsSigned w128 (pos 100 +ℤ rate)
wide gross_fits rate_fits = (gross_fits, rate_fits, omega (arith, ints), omega (arith, ints), omega (arith, ints), omega (arith, ints))

pub returns-in_err-net : goal.returns-in_err-net
returns-in_err-net c =
    let (gross_fits, rate_fits, gross, rate, product, divisor) = wide c.ranges.gross c.ranges.rate_percent in
    let none = simp (c.from.ensures, c.from-2.ensures, to_z-of_z) at c.in_err-net.ensures.answer in
    rw c.from_residual.ensures (none_narrower _ (FitsSigned w128) _ (λ z fits. omega (arith, ints)) none)

pub returns : goal.returns
returns c =
    let (gross_fits, rate_fits, gross, rate, product, divisor) = wide c.ranges.gross c.ranges.rate_percent in
    let net = c.in_ok-net.ensures.answer.1.0 in
    let found = simp (c.from.ensures, c.from-2.ensures, to_z-of_z) at c.in_ok-net.ensures.answer in
    rw c.ok.ensures.value (narrowed (λ (z : ℤ). z) (FitsSigned w64) _ c.try_from.result found.0.0 found.1.1 (nearest_even_quotient_is_only _ _ _ found.1.1) (simp to_z-of_z at c.try_from.ensures))
