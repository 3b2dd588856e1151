use Rattle.applied.proofs.Common.{pos, arith}
use Rattle.applied.proofs.RollingHashes.{next_window, weight_of_first}
use Rattle.applied.proofs.rolling_hash.RollingHash.slide.Goals as goal

pub returns : goal.returns
returns c kept size h =
    let weight = weight_of_first _ _ c.args.self.now.positive c.args.self.now.weighted in
    next_window (pos c.args.self.now.base) c.args.leaving c.args.entering kept (omega (arith, size)) h weight
    (rw c.from.ensures at c.product_modulo-first.ensures.residue) c.difference_modulo-rest.ensures.residue c.product_modulo-shifted.ensures.residue
    (rw c.from-2.ensures at c.sum_modulo.ensures.residue)
