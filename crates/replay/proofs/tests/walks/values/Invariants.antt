use Rattle.std.specs.List.{All}
use Rattle.replay.proofs.tests.walks.values.Given as goal

abbrev pub invariant-loop-n : goal.invariant-loop-n
invariant-loop-n g l = All (λ x. g.T.Number.fits (g.T.Number.value x)) l.values.items
