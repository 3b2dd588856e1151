use Rattle.modular.proofs.Common.{◌^◌, arith, count_leading_zeros, pow_pos}
use Rattle.modular.proofs.LongDivision.{shifted_left, unscaled}
use Rattle.modular.proofs.wide_residues.long_product.Goals as goal

pub returns : goal.returns
returns c =
    let places = count_leading_zeros 128 c.args.m in
    unscaled c.args.x c.args.y (2 ^ places) (pow_pos places) (rw (shifted_left {x = c.args.x} {m = c.args.m} (omega arith) (omega arith) c.ranges.m.fits, shifted_left {x = c.args.m} (omega arith) (omega arith) c.ranges.m.fits) at c.normalized_product.ensures)
