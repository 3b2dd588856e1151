use Rattle.ratio64.proofs.Common.{◌*ℤ◌, arith, AnswersFraction, num_of, den_of, positive_is_nonzero}
use Rattle.ratio64.proofs.FractionAnswers.{zero_exactly}
use Rattle.ratio64.proofs.WideSums.{numbers_read}
use Rattle.ratio64.proofs.fraction.Ratio.checked_div.Goals as goal

pub returns-clause-zero_divisor : goal.returns-clause-zero_divisor
returns-clause-zero_divisor c =
    let x = c.args.self.now in
    let y = c.args.other.now in
    let quotient : AnswersFraction (num_of x *ℤ den_of y) (num_of y *ℤ den_of x) c.reduced.result = grind (arith, numbers_read) in
    zero_exactly (positive_is_nonzero x.reduced.positive) quotient
