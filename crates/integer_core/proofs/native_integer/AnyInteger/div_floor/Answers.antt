use Rattle.integer_core.proofs.native_integer.AnyInteger.div_floor.Goals as goal

pub returns-clause-floored : goal.returns-clause-floored
returns-clause-floored g c = record { remainder = _; division = c.div_mod_floor.ensures.floored }
