use Rattle.modular.proofs.Common.{iff_false}
use Rattle.modular.proofs.BelowModulus.{below_fits}
use Rattle.modular.proofs.CommonSolutions.{PartsFit, parts_fit, sum_of_parts, sum_too_large}
use Rattle.modular.proofs.common_solutions.plus_times.Goals as goal
use Rattle.modular.proofs.common_solutions.plus_times.Given.{Over}
use Rattle.modular.proofs.common_solutions.plus_times.Goals.{Then-is_negative}

-- the sum and its parts fit if the number of times is negative
parts : (g : Over) (c : Then-is_negative g)
    → PartsFit g.T.Number.fits (g.T.Number.value c.args.start) (g.T.Number.value c.args.m) (g.T.Number.value c.args.times)
parts g c =
    let near = c.requires.not_too_low in
    parts_fit g.met.T.Integer.range_law c.requires.start_below c.requires.in_range.0 (c.is_negative.ensures.0 c.if-is_negative.true) near.1 near.2

pub successor-requires-clause-sum_fits : goal.successor-requires-clause-sum_fits
successor-requires-clause-sum_fits g c = (parts g (goal.at.successor-requires-clause-sum_fits g c).Then-is_negative).successor

pub product-size-requires-clause-product_fits : goal.product-size-requires-clause-product_fits
product-size-requires-clause-product_fits g c = rw c.successor.ensures.value (parts g (goal.at.product-size-requires-clause-product_fits g c).Then-is_negative).product

pub difference-requires-clause-difference_fits : goal.difference-requires-clause-difference_fits
difference-requires-clause-difference_fits g c = (parts g (goal.at.difference-requires-clause-difference_fits g c).Then-is_negative).difference

pub sum-requires-clause-sum_fits : goal.sum-requires-clause-sum_fits
sum-requires-clause-sum_fits g c =
    rw (c.product-size.ensures.value, c.successor.ensures.value, c.difference.ensures.value, sum_of_parts _ _ _) (parts g (goal.at.sum-requires-clause-sum_fits g c).Then-is_negative).sum

pub returns-then-is_negative : goal.returns-then-is_negative
returns-then-is_negative g c =
    let value = rw (c.product-size.ensures.value, c.successor.ensures.value, c.difference.ensures.value, sum_of_parts _ _ _) at c.sum.ensures.value in
    ((parts g (goal.at.returns-then-is_negative g c).Then-is_negative).sum, (c.sum.ensures.in_range, value))

pub returns-in_err-size : goal.returns-in_err-size
returns-in_err-size g c =
    rw c.from_residual.ensures (sum_too_large g.met.T.Integer.range_law c.requires.start_below (iff_false c.is_negative.ensures c.if-is_negative.false) c.in_err-size.ensures)

pub sum-requires-else-is_negative-clause-a_in_range : goal.sum-requires-else-is_negative-clause-a_in_range
sum-requires-else-is_negative-clause-a_in_range g c = below_fits g.met.T.Integer.range_law c.requires.in_range.1 c.requires.start_below
