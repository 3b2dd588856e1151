use Rattle.modular.proofs.SplitModuli.{joined_of}
use Rattle.modular.proofs.word_residues.SplitModulus.form_of.Goals as goal

pub returns-clause-congruent : goal.returns-clause-congruent
returns-clause-congruent c = let odd = c.args.self.now.odd in joined_of odd.modulus odd.inverse odd.inverts c.to_montgomery.result c.args.x c.to_montgomery.ensures.congruent
