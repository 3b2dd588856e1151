-- The square of the root is at most n, so the product and the difference are in range.
use Rattle.applied.proofs.Common.{fits_below, linear}
use Rattle.applied.proofs.PowersAndRoots.{square_rest}
use Rattle.applied.proofs.powers.sqrt_rem.Goals as goal

pub product-requires-clause-product_fits : goal.product-requires-clause-product_fits
product-requires-clause-product_fits g c =
    let square = square_rest c.requires.from_zero c.sqrt-root.ensures.root in
    fits_below g.met.T.Integer.range_law c.requires.in_range square.0 square.1

pub difference-requires-clause-difference_fits : goal.difference-requires-clause-difference_fits
difference-requires-clause-difference_fits g c =
    let square = square_rest c.requires.from_zero c.sqrt-root.ensures.root in
    rw c.product.ensures.value (fits_below g.met.T.Integer.range_law c.requires.in_range
    (omega (linear, square.1)) (omega (linear, square.0)))
