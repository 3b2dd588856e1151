use Rattle.num_integer.proofs.Laws as law
use Rattle.theorems.proofs.widths.gcd_at_two_types.Goals as goal

pub returns-clause-same : goal.returns-clause-same
returns-clause-same g c = law.gcd_is_only _ _ _ c.gcd-2.ensures.greatest _ (rw (c.requires.same_first, c.requires.same_second) at c.gcd.ensures.greatest)
