use Rattle.modular.proofs.Common.{◌*◌, arith}
use Rattle.modular.proofs.MontgomeryProducts.{montgomery_product_is, subtracted_at_most}
use Rattle.modular.proofs.montgomery.Montgomery.montgomery_product.Goals as goal

pub returns-then-high-subtracted-clause-congruent : goal.returns-then-high-subtracted-clause-congruent
returns-then-high-subtracted-clause-congruent c =
    let most = subtracted_at_most c.args.self.now.inverse (c.from.result * c.from-2.result) (omega arith) c.args.self.now.positive c.from-3.ensures c.from-4.ensures in
    montgomery_product_is c.args.self.now.inverse _ 1 (omega arith) c.args.self.now.inverts c.from.ensures c.from-2.ensures c.from-3.ensures c.from-4.ensures (omega arith)

pub returns-else-high-subtracted-clause-congruent : goal.returns-else-high-subtracted-clause-congruent
returns-else-high-subtracted-clause-congruent c =
    montgomery_product_is c.args.self.now.inverse _ 0 (omega arith) c.args.self.now.inverts c.from.ensures c.from-2.ensures c.from-3.ensures c.from-4.ensures (omega arith)
