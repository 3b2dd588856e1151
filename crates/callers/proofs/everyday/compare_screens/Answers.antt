use Rattle.callers.proofs.Common.{arith, ints, ◌∙◌}
use Rattle.ratio64.proofs.ForCallers.{natural_fractions_compare_alike}
use Rattle.callers.proofs.everyday.compare_screens.Goals as goal

pub returns : goal.returns
returns c =
    c.compare.ensures ∙ natural_fractions_compare_alike _ _ _ _ _ _ _ _ (omega (arith, ints, c.shape_of.result.reduced.positive)) (omega (arith, ints, c.shape_of-2.result.reduced.positive))
    c.requires.first c.requires.second c.shape_of.ensures c.shape_of-2.ensures
