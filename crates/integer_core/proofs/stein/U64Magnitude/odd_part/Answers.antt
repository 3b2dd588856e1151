use Rattle.integer_core.proofs.ForAnswers.{refl, w64, odd_part_by_shift}
use Rattle.integer_core.proofs.stein.U64Magnitude.odd_part.Goals as goal

pub returns-clause-odd : goal.returns-clause-odd
returns-clause-odd c = (odd_part_by_shift w64 c.requires.positive c.ranges.self.fits refl).0

pub returns-clause-product : goal.returns-clause-product
returns-clause-product c = (odd_part_by_shift w64 c.requires.positive c.ranges.self.fits refl).1
