use Rattle.integer_roots.proofs.Common.{◌*◌, ◌^◌}
use Rattle.integer_roots.proofs.CubeDigits.{IsCubeFront}
use Rattle.integer_roots.proofs.cube_root.cube_root_by_digits.Given as goal

abbrev pub invariant-loop-digit : goal.invariant-loop-digit
invariant-loop-digit l = IsCubeFront l.fn.a l.rest l.square l.root (2 ^ (3 * l.digit))
