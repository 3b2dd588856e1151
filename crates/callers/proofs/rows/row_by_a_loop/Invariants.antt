use Rattle.callers.proofs.Common.{map, row_of, ◌++◌, ◌≡◌}
use Rattle.callers.proofs.rows.row_by_a_loop.Given as goal

abbrev pub invariant-loop-item : goal.invariant-loop-item
invariant-loop-item g l = map g.T.Number.value l.all.items ++ l.item-iterator ≡ row_of (g.T.Number.value l.fn.n)
