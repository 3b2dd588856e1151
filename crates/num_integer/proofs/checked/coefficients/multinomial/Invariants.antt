use Rattle.num_integer.proofs.Multinomials.{IsMultinomialSoFar}
use Rattle.num_integer.proofs.checked.coefficients.multinomial.Given as goal

abbrev pub invariant-loop-count : goal.invariant-loop-count
invariant-loop-count g l = IsMultinomialSoFar g.T.Number.fits g.T.Number.value l.k l.count-index (g.T.Number.value l.multinomial) (g.T.Number.value l.total)
