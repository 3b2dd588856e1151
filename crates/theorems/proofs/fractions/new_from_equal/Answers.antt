use Rattle.theorems.proofs.Common.{w64, to_z-of_z, equal_fractions_answered_alike}
use Rattle.theorems.proofs.fractions.new_from_equal.Goals as goal

pub returns : goal.returns
returns c =
    let answer = rw (to_z-of_z w64 _ c.ranges.a, to_z-of_z w64 _ c.ranges.b) at c.new.ensures.fraction in
    equal_fractions_answered_alike c.requires.given c.requires.fraction c.requires.equal answer
