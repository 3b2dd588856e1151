use Rattle.modular.proofs.Common.{iff_false}
use Rattle.modular.proofs.Agreements.{least_beyond}
use Rattle.modular.proofs.several_congruences.next_solution_of_each.Goals as goal

pub returns-then-agree_in_pairs : goal.returns-then-agree_in_pairs
returns-then-agree_in_pairs g c = least_beyond g.C.HasCongruence.residue_of g.C.HasCongruence.modulus_of c.args.items.now c.requires.positive (c.agree_in_pairs.ensures.0 c.if-agree_in_pairs.true) c.in-None.ensures

pub returns-else-agree_in_pairs : goal.returns-else-agree_in_pairs
returns-else-agree_in_pairs g c = λ x each. iff_false c.agree_in_pairs.ensures c.if-agree_in_pairs.false (x, each)
