use Rattle.theorems.proofs.Common.{inr, no_integer_is_nearer, read, rounded_even_is_only, units_of}
use Rattle.theorems.proofs.decimals.nearest_units.Goals as goal

pub returns-clause-only : goal.returns-clause-only
returns-clause-only c =
    let decimal = c.in_ok-decimal.decimal in
    rw (c.units.ensures, read (units_of decimal) decimal.below) (rounded_even_is_only _ _ (units_of decimal) c.args.x.now.reduced.positive c.in_ok-decimal.ensures.1.rounded)

pub returns-clause-nearest : goal.returns-clause-nearest
returns-clause-nearest c =
    let decimal = c.in_ok-decimal.decimal in
    rw (c.units.ensures, read (units_of decimal) decimal.below) (no_integer_is_nearer _ _ _ (inr c.in_ok-decimal.ensures.1.rounded))
