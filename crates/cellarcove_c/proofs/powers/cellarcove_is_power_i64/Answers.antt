use Rattle.cellarcove_c.proofs.Common.{arith, common_steps, to_z-of_z}
use Rattle.cellarcove_c.proofs.ZerothPowers.{is_zeroth_power}
use Rattle.cellarcove_c.proofs.powers.cellarcove_is_power_i64.Goals as goal

pub returns-then-degree-eq0 : goal.returns-then-degree-eq0
returns-then-degree-eq0 c = grind (arith, common_steps, to_z-of_z, is_zeroth_power c.args.x c.args.degree c.if-degree-eq0.true)
