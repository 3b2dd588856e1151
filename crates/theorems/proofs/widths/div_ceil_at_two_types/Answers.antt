use Rattle.num_integer.proofs.Laws as law
use Rattle.theorems.proofs.widths.div_ceil_at_two_types.Goals as goal

pub returns-clause-same : goal.returns-clause-same
returns-clause-same g c = law.quotient_is_only.2 _ _ _ c.div_ceil-2.ensures.ceiled _ (rw (c.requires.same_number, c.requires.same_divisor) at c.div_ceil.ensures.ceiled)
