use Rattle.cellarcove_c.proofs.Common.{refl}
use Rattle.cellarcove_c.proofs.HalfRows.{half_rows, item_of, sums}
use Rattle.cellarcove_c.proofs.binomials.from_table.Goals as goal

pub returns : goal.returns
unfolding half_rows sums
returns c = item_of _ c.args.n c.args.k c.min.result refl c.requires c.if-k-n.false c.min.ensures
