use Rattle.integer_roots.proofs.Common.{is_not_less}
use Rattle.integer_roots.proofs.root.AnyRoots.sqrt.Goals as goal

pub check-requires : goal.check-requires
check-requires g c = (is_not_less {a = g.T.Number.value c.args.self.now} {b = g.T.Number.value c.zero.result} (g.met.T.Number.order_law c.args.self.now c.zero.result g.met.T.Integer.exact_law) c.ge.ensures).1 (rw c.zero.ensures.value c.requires.from_zero)
