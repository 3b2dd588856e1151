use Rattle.bounded_integers.proofs.Computed.{residue_inside}
use Rattle.bounded_integers.proofs.integers.OwnModular.product_modulo.Goals as goal

pub product_modulo-requires-clause-positive : goal.product_modulo-requires-clause-positive
product_modulo-requires-clause-positive g c = rw c.number-3.ensures.value c.requires.positive

pub answer-requires : goal.answer-requires
answer-requires g c = residue_inside g.met.F.Form.form_law c.number-3.ensures.in_range c.product_modulo.ensures.residue
