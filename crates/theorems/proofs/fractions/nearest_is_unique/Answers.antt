use Rattle.theorems.proofs.Common.{FitsSigned, w64, rules, to_z-of_z, nearest_is_only}
use Rattle.theorems.proofs.fractions.nearest_is_unique.Goals as goal

pub returns : goal.returns
returns c =
    let found = rw (to_z-of_z w64 _ c.ranges.max) at c.limit_denominator-nearest.ensures in
    let num_fits : FitsSigned w64 c.num.result = search rules in
    let den_fits : FitsSigned w64 c.den.result = search rules in
    rw (to_z-of_z w64 _ num_fits, to_z-of_z w64 _ den_fits, c.num.ensures, c.den.ensures) (nearest_is_only _ _ _ _ _ c.requires.nearest _ found)
