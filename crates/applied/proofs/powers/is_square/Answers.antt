-- `is_square` compares n with the square of its root.
use Rattle.applied.proofs.Common.{◌∙◌, inl, sym, from_test, square_root_of_square, within_fits}
use Rattle.applied.proofs.PowersAndRoots.{square_rest}
use Rattle.applied.proofs.powers.is_square.Goals as goal

pub product-requires-clause-product_fits : goal.product-requires-clause-product_fits
product-requires-clause-product_fits g c =
    let square = square_rest (from_test c.is_negative.ensures c.if-is_negative.false) c.sqrt-root.ensures.root in
    within_fits g.met.T.Integer.range_law c.requires.in_range (inl (square.0, square.1))

pub returns : goal.returns
returns g c = (
  λ h. (g.T.Number.value c.sqrt-root.result, sym c.product.ensures.value ∙ c.is_equal.ensures.0 h),
  λ x. c.is_equal.ensures.1 (c.product.ensures.value ∙ square_root_of_square x.0 x.1 c.sqrt-root.ensures.root),
)
