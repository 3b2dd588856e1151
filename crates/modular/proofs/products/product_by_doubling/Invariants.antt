use Rattle.modular.proofs.Common.{unsigned_abs}
use Rattle.modular.proofs.DoublingIterations.{Doubling}
use Rattle.modular.proofs.products.product_by_doubling.Given as goal

abbrev pub invariant-iterations : goal.invariant-iterations
invariant-iterations g l =
    let value = g.T.Number.value in
    record {
      rest_fits : g.T.Number.fits (value l.rest);
      kept : Doubling (value l.fn.m) (value l.fn.x) (value l.fn.y) (value l.total) (value l.addend) (value l.rest);
    }

abbrev pub decreases-iterations : goal.decreases-iterations
decreases-iterations g l = unsigned_abs (g.T.Number.value l.rest)
