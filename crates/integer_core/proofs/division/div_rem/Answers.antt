use Rattle.integer_core.proofs.Quotients.{truncated_is}
use Rattle.integer_core.proofs.division.div_rem.Goals as goal

pub quotient-requires-clause-quotient_fits : goal.quotient-requires-clause-quotient_fits
quotient-requires-clause-quotient_fits g c = c.requires.quotient_fits _ (record { remainder = _; division = truncated_is _ _ c.requires.nonzero })

pub returns-clause-truncated : goal.returns-clause-truncated
returns-clause-truncated g c = rw (c.quotient.ensures.value, c.remainder.ensures.value) (truncated_is _ _ c.requires.nonzero)
