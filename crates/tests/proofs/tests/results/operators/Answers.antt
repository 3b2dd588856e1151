use Rattle.std.proofs.Common.{refl}
use Rattle.num_integer.proofs.ForCallers.{truncated_is}
use Rattle.tests.proofs.tests.results.operators.Goals as goal

pub div-requires : goal.div-requires
div-requires g c =
    let domain = c.if-quotient_fits.ensures.domain.0.0 refl in
    let is = truncated_is _ _ domain.0 in
    g.met.T.Num.can_div_law _ _ (λ e. ((g.T.Number.nonzero_law _ e c.requires.d_in_range).1 domain.0, domain.1 _ (record { remainder = _; division = is })))

pub rem-requires : goal.rem-requires
rem-requires g c =
    let domain = c.if-quotient_fits.ensures.domain.0.0 refl in
    let is = truncated_is _ _ domain.0 in
    g.met.T.Num.can_rem_law _ _ (λ e. ((g.T.Number.nonzero_law _ e c.requires.d_in_range).1 domain.0, domain.1 _ (record { remainder = _; division = is })))
