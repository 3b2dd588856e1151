use Rattle.applied.proofs.Common.{pos, take, IsResidue, weighted_sum}
use Rattle.applied.proofs.rolling_hash.RollingHash.hash.Given as goal

abbrev pub invariant-loop-byte : goal.invariant-loop-byte
invariant-loop-byte l = IsResidue (pos l.self.modulus) (weighted_sum (pos l.self.base) (take l.byte-index l.window)) (pos l.hash)
