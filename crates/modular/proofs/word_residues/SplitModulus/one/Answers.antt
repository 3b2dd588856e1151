use Rattle.modular.proofs.SplitModuli.{joined_of}
use Rattle.modular.proofs.word_residues.SplitModulus.one.Goals as goal

pub returns-clause-congruent : goal.returns-clause-congruent
returns-clause-congruent c = let odd = c.args.self.now.odd in joined_of odd.modulus odd.inverse odd.inverts c.one.result 1 c.one.ensures.one
