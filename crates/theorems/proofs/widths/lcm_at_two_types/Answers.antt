use Rattle.num_integer.proofs.Laws as law
use Rattle.theorems.proofs.widths.lcm_at_two_types.Goals as goal

pub returns-clause-same : goal.returns-clause-same
returns-clause-same g c = law.lcm_is_only _ _ _ c.lcm-2.ensures.least _ (rw (c.requires.same_first, c.requires.same_second) at c.lcm.ensures.least)
