use Rattle.ratio64.proofs.Common.{arith, from_test, linear, positive_is_nonzero}
use Rattle.ratio64.proofs.ExactResults.{coprime_is_exact, exact_quotients, same_result, whole_is_exact}
use Rattle.ratio64.proofs.reduction.reduced_terms.Goals as goal

pub returns-then-is_zero-clause-exact : goal.returns-then-is_zero-clause-exact
returns-then-is_zero-clause-exact g c = grind (arith, whole_is_exact)

pub returns-then-is_equal-clause-exact : goal.returns-then-is_equal-clause-exact
returns-then-is_equal-clause-exact g c = grind (arith, whole_is_exact)

pub returns-then-is_below-clause-exact : goal.returns-then-is_below-clause-exact
returns-then-is_below-clause-exact g c =
    let turned = c.with_positive_denominator-num.ensures in
    rw (c.quotient.ensures.value, c.quotient-then-is_below.ensures.value) (same_result c.requires.fraction turned.equal (exact_quotients turned.positive c.gcd-common.ensures.greatest))

pub returns-else-is_below-clause-exact : goal.returns-else-is_below-clause-exact
returns-else-is_below-clause-exact g c =
    let turned = c.with_positive_denominator-num.ensures in
    let small = from_test c.is_below.ensures c.if-is_below.false in
    let own = coprime_is_exact (positive_is_nonzero turned.positive) (omega (linear, turned.positive)) c.gcd-common.ensures.greatest (omega (linear, small, c.one-2.ensures.value)) in
    same_result c.requires.fraction turned.equal own
