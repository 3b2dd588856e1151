use Rattle.applied.proofs.ListDivisors.{lcm_of_divisor_fits}
use Rattle.applied.proofs.lists.checked.multiple_of_both.Goals as goal

pub returns-then-is_multiple_of : goal.returns-then-is_multiple_of
returns-then-is_multiple_of g c =
    lcm_of_divisor_fits g.T.Number.fits c.requires.in_range.0 c.requires.from_zero (c.is_multiple_of.ensures.0 c.if-is_multiple_of.true)
