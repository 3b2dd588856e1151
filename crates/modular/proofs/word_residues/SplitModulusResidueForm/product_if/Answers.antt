use Rattle.modular.proofs.PowerIterations.{times_at_one, times_at_zero}
use Rattle.modular.proofs.word_residues.SplitModulusResidueForm.product_if.Goals as goal

pub returns-then-digit-eq1-clause-congruent : goal.returns-then-digit-eq1-clause-congruent
returns-then-digit-eq1-clause-congruent c = times_at_one _ _ c.if-digit-eq1.true c.product-product.ensures.congruent

pub returns-else-digit-eq1-clause-congruent : goal.returns-else-digit-eq1-clause-congruent
returns-else-digit-eq1-clause-congruent c = times_at_zero _ _ c.requires.is_digit c.if-digit-eq1.false
