use Rattle.applied.proofs.Common.{◌∙◌, subst, sym, from_test}
use Rattle.applied.proofs.FallingFactorials.{falling_of_none}
use Rattle.applied.proofs.counting.checked.falling.Goals as goal

pub returns-then-is_below : goal.returns-then-is_below
returns-then-is_below g c =
    let n_up = from_test c.is_negative.ensures c.if-is_negative.false in
    let k_up = from_test c.is_negative-else-is_negative.ensures c.if-is_negative-2.false in
    let is = c.zero.ensures.value ∙ sym (falling_of_none _ _ n_up (c.is_below.ensures.0 c.if-is_below.true)) in
    ((n_up, k_up, subst g.T.Number.fits is c.zero.ensures.in_range), (c.zero.ensures.in_range, is))
