-- Both numbers are divided by the magnitude of the result of `signed_gcd`.
use Rattle.applied.proofs.Common.{◌≢◌, iff_false, pos, sizes}
use Rattle.applied.proofs.ReducedPairs.{reduced_by_gcd}
use Rattle.applied.proofs.coprime.reduced.Goals as goal

pub returns-else-is_zero-clause-reduced : goal.returns-else-is_zero-clause-reduced
returns-else-is_zero-clause-reduced g c =
    let nonzero : g.T.Number.value c.signed_gcd-divisor.result ≢ pos 0 = iff_false c.is_zero.ensures c.if-is_zero.false in
    reduced_by_gcd (omega sizes) c.signed_gcd-divisor.ensures.magnitude c.divided_by_magnitude.ensures.product c.divided_by_magnitude-else-is_zero.ensures.product
