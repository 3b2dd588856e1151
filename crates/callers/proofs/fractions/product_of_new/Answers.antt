use Rattle.callers.proofs.Common.{exact_of_words, product_of_exact_results}
use Rattle.callers.proofs.fractions.product_of_new.Goals as goal

pub returns : goal.returns
returns c =
    let x = exact_of_words c.ranges.a c.ranges.b c.in_ok-new.ensures.fraction.exact in
    let y = exact_of_words c.ranges.c c.ranges.d c.in_ok-new-2.ensures.fraction.exact in
    (product_of_exact_results x y c.checked_mul.ensures.product).exact
