use Rattle.cellarcove_c.proofs.Common.{arith, ints, to_z-of_z}
use Rattle.cellarcove_c.proofs.congruences.cellarcove_solutions_i64.Goals as goal
use Rattle.cellarcove_c.proofs.congruences.cellarcove_solutions_i64.Goals.{else-m-le0, then-m-le0}

pub returns : goal.returns
returns c = elim c.if-m-le0.branch [
  | then-m-le0 w ↦ rw w.status-is (grind (arith, to_z-of_z))
  | else-m-le0 w ↦ rw w.status-is (record {
    answer = grind (arith, to_z-of_z);
    modulus_is_bad = grind (arith, to_z-of_z);
    refusal = grind (arith, ints, to_z-of_z);
  })
]
