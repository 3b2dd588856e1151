use Rattle.ratio64.proofs.Common.{◌*ℤ◌, rules, AnswersFraction, den_of, num_of, positive_is_nonzero}
use Rattle.ratio64.proofs.FractionAnswers.{zero_exactly}
use Rattle.ratio64.proofs.fraction.Ratio.checked_times.Goals as goal

pub returns-clause-zero_denominator : goal.returns-clause-zero_denominator
returns-clause-zero_denominator c =
    let x = c.args.self.now in
    let product : AnswersFraction (num_of x *ℤ c.args.n) (c.args.d *ℤ den_of x) c.reduced.result = search rules in
    zero_exactly (positive_is_nonzero x.reduced.positive) product
