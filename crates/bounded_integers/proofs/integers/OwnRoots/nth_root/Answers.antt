use Rattle.num_integer.proofs.ForCallers.{root_in_range}
use Rattle.bounded_integers.proofs.integers.OwnRoots.nth_root.Goals as goal

pub nth_root-requires-clause-from_zero_where_even : goal.nth_root-requires-clause-from_zero_where_even
nth_root-requires-clause-from_zero_where_even g c even = rw c.number.ensures.value (c.requires.from_zero_where_even even)

pub answer-requires : goal.answer-requires
answer-requires g c = root_in_range g.met.F.Form.form_law c.number.ensures.in_range c.requires.degree c.nth_root.ensures.root
