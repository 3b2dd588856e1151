use Rattle.num_integer.proofs.Laws as law
use Rattle.theorems.proofs.widths.nth_root_at_two_types.Goals as goal

pub returns-clause-same : goal.returns-clause-same
returns-clause-same g c = law.root_is_only _ _ _ c.nth_root-2.ensures.root _ (rw c.requires.same_number at c.nth_root.ensures.root)
