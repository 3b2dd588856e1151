use Rattle.std.specs.List.{All}
use Rattle.tests.proofs.tests.results.values.Given as goal

abbrev pub invariant-loop-number : goal.invariant-loop-number
invariant-loop-number g l = All (λ x. g.T.Number.fits (g.T.Number.value x)) l.values.items
