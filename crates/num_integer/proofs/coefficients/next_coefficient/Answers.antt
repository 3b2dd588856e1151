use Rattle.num_integer.proofs.Common.{◌∙◌}
use Rattle.num_integer.proofs.coefficients.next_coefficient.Goals as goal

pub product_or-requires-clause-product_fits : goal.product_or-requires-clause-product_fits
product_or-requires-clause-product_fits g c = rw c.next_factors-x.ensures.product c.requires.next_fits

pub returns-clause-next : goal.returns-clause-next
returns-clause-next g c = c.product_or.ensures.value ∙ c.next_factors-x.ensures.product
