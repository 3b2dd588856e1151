use Rattle.callers.proofs.Common.{literal_lcm_fits, rules}
use Rattle.callers.proofs.multiples.common_multiple_of_literals.Goals as goal

pub lcm-requires-clause-lcm_fits : goal.lcm-requires-clause-lcm_fits
lcm-requires-clause-lcm_fits c = search (rules, literal_lcm_fits)
