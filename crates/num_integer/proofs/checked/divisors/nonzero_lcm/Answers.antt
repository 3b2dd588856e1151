use Rattle.num_integer.proofs.Common.{◌∙◌, IsLeastCommonMultiple, natural, gcd_positive, only_lcm, from_test}
use Rattle.num_integer.proofs.CheckedAnswers.{answer_only, answers_only, lcm_by_gcd, negated_is, product_fits_by_size}
use Rattle.num_integer.proofs.checked.divisors.nonzero_lcm.Goals as goal

pub positive_quotient-requires-clause-positive : goal.positive_quotient-requires-clause-positive
positive_quotient-requires-clause-positive g c = gcd_positive c.requires.greatest c.requires.nonzero

pub returns-in_err-product : goal.returns-in_err-product
returns-in_err-product g c =
    let own = lcm_by_gcd c.requires.nonzero c.requires.greatest c.positive_quotient.ensures.value in
    rw c.from_residual.ensures (λ each. c.in_err-product.ensures (product_fits_by_size _ _ g.met.T.Integer.range_law c.requires.in_range.0 c.positive_quotient.ensures.in_range (each _ own)))

pub returns-then-is_negative : goal.returns-then-is_negative
returns-then-is_negative g c =
    let own = lcm_by_gcd c.requires.nonzero c.requires.greatest c.positive_quotient.ensures.value in
    let below = rw c.in_ok-product.ensures.1.1 at (c.is_negative.ensures.0 c.if-is_negative.true) in
    answers_only g.T.Number.fits (IsLeastCommonMultiple (g.T.Number.value c.args.x) (g.T.Number.value c.args.y)) g.T.Number.value _ own (λ l. only_lcm own)
    (rw (c.in_ok-product.ensures.1.1, negated_is _ below) at c.negated.ensures)

pub returns-else-is_negative : goal.returns-else-is_negative
returns-else-is_negative g c =
    let own = lcm_by_gcd c.requires.nonzero c.requires.greatest c.positive_quotient.ensures.value in
    let up = rw c.in_ok-product.ensures.1.1 at (from_test c.is_negative.ensures c.if-is_negative.false) in
    answer_only {P = IsLeastCommonMultiple (g.T.Number.value c.args.x) (g.T.Number.value c.args.y)} own (λ l. only_lcm own) c.in_ok-product.ensures.1.0
    (c.in_ok-product.ensures.1.1 ∙ natural up)
