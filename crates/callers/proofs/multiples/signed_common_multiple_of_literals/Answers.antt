use Rattle.callers.proofs.Common.{literal_lcm_fits_signed, rules}
use Rattle.callers.proofs.multiples.signed_common_multiple_of_literals.Goals as goal

pub lcm-requires-clause-lcm_fits : goal.lcm-requires-clause-lcm_fits
lcm-requires-clause-lcm_fits c = search (rules, literal_lcm_fits_signed)
