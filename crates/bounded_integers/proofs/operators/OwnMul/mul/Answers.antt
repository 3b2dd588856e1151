use Rattle.bounded_integers.proofs.Computed.{computed}
use Rattle.bounded_integers.proofs.operators.OwnMul.mul.Goals as goal

pub product-requires-clause-product_fits : goal.product-requires-clause-product_fits
product-requires-clause-product_fits g c = computed g.met.F.Number.Integer.range_law g.met.F.Form.ends_law (rw (c.number.ensures.value, c.number-2.ensures.value) c.requires)
