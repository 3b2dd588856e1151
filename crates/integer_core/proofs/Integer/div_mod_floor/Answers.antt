use Rattle.integer_core.proofs.Quotients.{of_one_division}
use Rattle.integer_core.proofs.Integer.div_mod_floor.Goals as goal

pub returns-clause-floored : goal.returns-clause-floored
returns-clause-floored g c = of_one_division c.div_floor.ensures.floored c.mod_floor.ensures.floored
