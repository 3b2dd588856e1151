use Rattle.integer_roots.proofs.Common.{◌∙◌, rules, is_not_less}
use Rattle.integer_roots.proofs.root.AnyRoots.nth_root.Goals as goal
use Rattle.integer_roots.proofs.root.AnyRoots.nth_root.Goals.{then-n-ne0, else-n-ne0}

pub check-requires-2 : goal.check-requires-2
check-requires-2 g c = elim c.if-n-ne0.branch [
  | then-n-ne0 w ↦ let differs = w.if-n-ne0.true in w.check-is ∙ search rules
  | else-n-ne0 w ↦ w.check-is ∙ (is_not_less {a = g.T.Number.value c.args.self.now} {b = g.T.Number.value w.zero.result} (g.met.T.Number.order_law c.args.self.now w.zero.result g.met.T.Integer.exact_law) w.ge.ensures).1 (rw w.zero.ensures.value (c.requires.from_zero_where_even w.if-n-ne0.false))
]

pub returns : goal.returns
returns g c =
    record {
      in_range = c.root_by_magnitude.ensures.in_range;
      root = c.root_by_magnitude.ensures.root;
    }
