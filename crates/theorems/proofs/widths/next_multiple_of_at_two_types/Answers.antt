use Rattle.num_integer.proofs.Laws as law
use Rattle.theorems.proofs.widths.next_multiple_of_at_two_types.Goals as goal

pub returns-clause-same : goal.returns-clause-same
returns-clause-same g c = law.multiple_is_only.2 _ _ _ c.next_multiple_of-2.ensures.multiple _ (rw (c.requires.same_number, c.requires.same_divisor) at c.next_multiple_of.ensures.multiple)
