use Rattle.num_integer.proofs.ForCallers.{least_turns}
use Rattle.callers.proofs.multiples.revolutions.Goals as goal

pub returns-then-lcm_fits : goal.returns-then-lcm_fits
returns-then-lcm_fits c = least_turns c.requires.a c.requires.b c.lcm-teeth.ensures.least
