use Rattle.num_integer.proofs.Common.{arith, fits_below, ints}
use Rattle.num_integer.proofs.RowSteps.{next_divides, next_only}
use Rattle.num_integer.proofs.coefficients.next_factors.Goals as goal

pub difference-requires-clause-difference_fits : goal.difference-requires-clause-difference_fits
difference-requires-clause-difference_fits g c = fits_below g.met.T.Integer.range_law c.requires.in_range.1 (omega (arith, ints)) (omega (arith, ints))

pub successor-requires-clause-sum_fits : goal.successor-requires-clause-sum_fits
successor-requires-clause-sum_fits g c = fits_below g.met.T.Integer.range_law c.requires.in_range.1 (omega (arith, ints)) (omega (arith, ints))

pub factors-requires-clause-whole : goal.factors-requires-clause-whole
factors-requires-clause-whole g c =
    next_divides c.requires.k_from_zero c.requires.k_below c.requires.current c.difference.ensures.value c.successor.ensures.value

pub returns-clause-product : goal.returns-clause-product
returns-clause-product g c =
    next_only c.requires.k_from_zero c.requires.k_below c.requires.current c.difference.ensures.value c.successor.ensures.value _ c.factors.ensures.product
