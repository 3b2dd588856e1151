use Rattle.modular.proofs.ForCallers.{power_is_natural}
use Rattle.applied.proofs.rolling_hash.RollingHash.new.Goals as goal

pub invariant_of-result : goal.invariant_of-result
invariant_of-result c = record {
  positive = c.requires.positive;
  some = c.requires.some;
  weighted = power_is_natural c.args.modulus c.args.base _ _ c.requires.positive (rw c.from.ensures at c.power_modulo-weight.ensures.residue);
}
