use Rattle.cellarcove_c.proofs.Common.{arith, to_z-of_z}
use Rattle.cellarcove_c.proofs.divisors.cellarcove_extended_gcd_i64.Goals as goal

pub returns-in-Some : goal.returns-in-Some
returns-in-Some c = grind (arith, to_z-of_z)
