use Rattle.applied.proofs.Common.{◌∙◌, subst, sym, answers_as, from_test}
use Rattle.applied.proofs.FallingFactorials.{factorial_is}
use Rattle.applied.proofs.counting.checked.factorial.Goals as goal

pub returns-else-is_negative : goal.returns-else-is_negative
returns-else-is_negative g c =
    let up = from_test c.is_negative.ensures c.if-is_negative.false in
    let is = factorial_is (g.T.Number.value c.args.n) (g.T.Number.value c.zero.result) up c.zero.ensures.value in
    answers_as _ (λ f. (up, subst g.T.Number.fits is f), λ domain. subst g.T.Number.fits (sym is) domain.1) (λ x h. (h.0, h.1 ∙ is)) c.product_above.ensures
