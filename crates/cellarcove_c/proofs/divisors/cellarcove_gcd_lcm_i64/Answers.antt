use Rattle.cellarcove_c.proofs.Common.{arith, ints, to_z-of_z}
use Rattle.cellarcove_c.proofs.divisors.cellarcove_gcd_lcm_i64.Goals as goal

pub returns : goal.returns
returns c = record { answer = grind (arith, to_z-of_z); refusal = grind (arith, ints, to_z-of_z) }
