use Rattle.applied.proofs.NearestAnswers.{answer_by_magnitudes, nearest_by}
use Rattle.applied.proofs.rounding.checked.wide_product_quotient.Goals as goal

pub returns : goal.returns
returns g c =
    answer_by_magnitudes (nearest_by c.args.half) g.T.Number.fits g.T.Number.value c.number_of.result c.parts_of_product-product.result c.parts_of-divisor.result
    c.parts_of_product-product.ensures c.parts_of-divisor.ensures c.requires.nonzero (rw c.from.ensures at c.nearest-magnitude.ensures.nearest) c.number_of.ensures
