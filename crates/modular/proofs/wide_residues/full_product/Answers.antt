use Rattle.modular.proofs.Common.{◌/◌, ◌%◌, ◌^◌, arith, refl}
use Rattle.modular.proofs.LongDivision.{product_by_digits}
use Rattle.modular.proofs.wide_residues.full_product.Goals as goal

pub returns : goal.returns
returns c = product_by_digits c.args.x c.args.y (c.args.x / 2 ^ 64) (c.args.x % 2 ^ 64) (c.args.y / 2 ^ 64) (c.args.y % 2 ^ 64) _ _ _ (omega arith) (omega arith) refl refl refl
