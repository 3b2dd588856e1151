use Rattle.bounded_integers.proofs.Computed.{residue_inside}
use Rattle.bounded_integers.proofs.integers.OwnModular.power_modulo_counted.Goals as goal

pub power_modulo_counted-power-requires-clause-positive : goal.power_modulo_counted-power-requires-clause-positive
power_modulo_counted-power-requires-clause-positive g c = rw c.number-2.ensures.value c.requires.positive

pub answer-requires : goal.answer-requires
answer-requires g c = residue_inside g.met.F.Form.form_law c.number-2.ensures.in_range c.power_modulo_counted-power.ensures.residue
