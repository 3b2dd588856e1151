use Rattle.ratio64.proofs.Common.{◌*ℤ◌, rules, AnswersFraction, den_of, positive_is_nonzero}
use Rattle.ratio64.proofs.FractionAnswers.{zero_exactly}
use Rattle.ratio64.proofs.fraction.Ratio.over_product_of_denominators.Goals as goal

pub returns-clause-never_zero : goal.returns-clause-never_zero
returns-clause-never_zero c =
    let x = c.args.self.now in
    let y = c.args.other.now in
    let answer : AnswersFraction c.args.num (den_of x *ℤ den_of y) c.reduced.result = search rules in
    λ e. positive_is_nonzero x.reduced.positive ((zero_exactly (positive_is_nonzero y.reduced.positive) answer).0 e)
