use Rattle.applied.proofs.Common.{products}
use Rattle.applied.proofs.halving.midpoint.Goals as goal

pub returns-clause-one_nearer_at_most : goal.returns-clause-one_nearer_at_most
returns-clause-one_nearer_at_most g c = omega products
