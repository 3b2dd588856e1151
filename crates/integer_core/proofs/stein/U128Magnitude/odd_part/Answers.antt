use Rattle.integer_core.proofs.ForAnswers.{refl, w128, odd_part_by_shift}
use Rattle.integer_core.proofs.stein.U128Magnitude.odd_part.Goals as goal

pub returns-clause-odd : goal.returns-clause-odd
returns-clause-odd c = (odd_part_by_shift w128 c.requires.positive c.ranges.self.fits refl).0

pub returns-clause-product : goal.returns-clause-product
returns-clause-product c = (odd_part_by_shift w128 c.requires.positive c.ranges.self.fits refl).1
