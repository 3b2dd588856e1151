use Rattle.integer_core.proofs.ForAnswers.{refl, w64, difference_by_shift}
use Rattle.integer_core.proofs.stein.U64Magnitude.odd_difference.Goals as goal

pub overflow_shr-result : goal.overflow_shr-result
overflow_shr-result c = (difference_by_shift w64 c.ranges.self.fits c.ranges.smaller.fits c.requires.below refl).0

pub returns-clause-odd_part : goal.returns-clause-odd_part
returns-clause-odd_part c = (difference_by_shift w64 c.ranges.self.fits c.ranges.smaller.fits c.requires.below refl).1
