use Rattle.applied.proofs.Common.{pos, arith, ints, congruent_refl}
use Rattle.applied.proofs.RollingHashes.{hash_more}
use Rattle.applied.proofs.rolling_hash.RollingHash.hash.Goals as goal

pub loop-byte-init : goal.loop-byte-init
loop-byte-init c =
    record { below = record { from_zero = omega arith; below = omega (ints, c.args.self.now.positive) }; congruent = congruent_refl (pos 0) }

pub loop-byte-preserved : goal.loop-byte-preserved
loop-byte-preserved c =
    hash_more (pos c.args.self.now.base) c.args.window.now c.loop-byte.byte-index c.loop-byte-test.true c.loop-byte.invariant c.product_modulo-shifted.ensures.residue (rw c.from.ensures at c.sum_modulo-hash.ensures.residue)
