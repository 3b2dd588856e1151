use Rattle.integer_core.proofs.Integer.inc.Goals as goal

pub returns-clause-one_more : goal.returns-clause-one_more
returns-clause-one_more g c = c.successor.ensures.value
