use Rattle.callers.proofs.Common.{arith, nat_tests}
use Rattle.ratio64.proofs.ForCallers.{natural_reduced_alike}
use Rattle.callers.proofs.everyday.have_one_shape.Goals as goal

pub returns : goal.returns
returns c =
    let alike = natural_reduced_alike _ _ _ _ _ _ _ _ c.shape_of.result.reduced c.shape_of-2.result.reduced c.requires.first c.requires.second c.shape_of.ensures c.shape_of-2.ensures in
    grind (arith, nat_tests, c.eq.ensures, alike.0, alike.1)
