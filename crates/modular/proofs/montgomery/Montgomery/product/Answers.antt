use Rattle.modular.proofs.MontgomeryProducts.{montgomery_forms_product}
use Rattle.modular.proofs.montgomery.Montgomery.product.Goals as goal

pub returns-clause-congruent : goal.returns-clause-congruent
returns-clause-congruent c =
    let form = c.args.self.now in
    montgomery_forms_product form.modulus form.inverse c.args.x c.args.y c.montgomery_product.result form.inverts c.montgomery_product.ensures.congruent
