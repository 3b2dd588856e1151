use Rattle.cellarcove_c.proofs.Common.{pos, arith, common_steps}
use Rattle.cellarcove_c.proofs.ZerothPowers.{is_zeroth_power}
use Rattle.cellarcove_c.proofs.powers.cellarcove_is_power_u64.Goals as goal

pub returns-then-degree-eq0 : goal.returns-then-degree-eq0
returns-then-degree-eq0 c = grind (arith, common_steps, is_zeroth_power (pos c.args.x) c.args.degree c.if-degree-eq0.true)
