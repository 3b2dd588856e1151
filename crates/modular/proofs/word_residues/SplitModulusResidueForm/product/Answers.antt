use Rattle.modular.proofs.SplitModuli.{joined_product}
use Rattle.modular.proofs.word_residues.SplitModulusResidueForm.product.Goals as goal

pub returns-clause-congruent : goal.returns-clause-congruent
returns-clause-congruent c =
    let odd = c.args.self.now.odd in
    joined_product odd.modulus odd.inverse odd.inverts c.args.x.0 c.args.x.1 c.args.y.0 c.args.y.1 c.product.result c.product.ensures.congruent
