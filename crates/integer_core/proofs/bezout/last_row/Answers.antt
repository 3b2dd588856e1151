use Rattle.integer_core.proofs.ForAnswers.{arith, rows_fit_first, iteration_fits, rows_fit_iteration, sign_fits, rows_few, last_gcd, last_at_once, last_after_iterations, reaches_last}
use Rattle.integer_core.proofs.bezout.last_row.Goals as goal

pub rows-init : goal.rows-init
rows-init g c =
    let first = c.of_first-previous.ensures in
    rw (first.remainder, first.x, first.y, c.zero.ensures.value, c.one.ensures.value)
    (rows_fit_first g.met.T.Integer.range_law c.requires.in_range.0 c.requires.in_range.1 c.requires.nonzero c.requires.has_pair)

pub product-requires-clause-product_fits : goal.product-requires-clause-product_fits
product-requires-clause-product_fits g c =
    let parts = c.in-Some.ensures in
    (iteration_fits c.rows.invariant parts.0 parts.1.1).0.product

pub difference-x-requires-clause-difference_fits : goal.difference-x-requires-clause-difference_fits
difference-x-requires-clause-difference_fits g c =
    let parts = c.in-Some.ensures in
    rw c.product.ensures.value (iteration_fits c.rows.invariant parts.0 parts.1.1).0.next.in_range

pub product-requires-in-Some-clause-product_fits : goal.product-requires-in-Some-clause-product_fits
product-requires-in-Some-clause-product_fits g c =
    let parts = c.in-Some.ensures in
    (iteration_fits c.rows.invariant parts.0 parts.1.1).1.product

pub difference-y-requires-clause-difference_fits : goal.difference-y-requires-clause-difference_fits
difference-y-requires-clause-difference_fits g c =
    let parts = c.in-Some.ensures in
    rw c.product-in-Some.ensures.value (iteration_fits c.rows.invariant parts.0 parts.1.1).1.next.in_range

pub overflow_add-iterations : goal.overflow_add-iterations
overflow_add-iterations g c = omega (arith, rows_few c.requires.nonzero c.rows.invariant)

pub rows-preserved : goal.rows-preserved
rows-preserved g c =
    let parts = c.in-Some.ensures in
    rw (c.difference-x.ensures.value, c.product.ensures.value, c.difference-y.ensures.value, c.product-in-Some.ensures.value)
    (rows_fit_iteration c.rows.invariant parts.0 parts.1.1 parts.1.0.1)

pub returns : goal.returns
returns g c =
    let h = c.rows.invariant in
    let ends = c.in_default.ensures in
    record {
      x_fits = sign_fits h.range h.current_fits.remainder h.current_fits.x;
      y_fits = sign_fits h.range h.current_fits.remainder h.current_fits.y;
      greatest = last_gcd h.rows ends;
      at_once = last_at_once h.rows;
      after_iterations = last_after_iterations h.rows ends;
      iterations = reaches_last h.rows.run ends;
    }
