use Rattle.ratio64.proofs.Common.{◌^◌, linear, pos, positive_is_nonzero, places_of, rules, units_of, AnswersFraction}
use Rattle.ratio64.proofs.DecimalTexts.{ten_up}
use Rattle.ratio64.proofs.decimal.Decimal.to_ratio.Goals as goal

pub returns-clause-never_zero : goal.returns-clause-never_zero
returns-clause-never_zero c =
    let x = c.args.self.now in
    let up = ten_up (places_of x) in
    let fraction : AnswersFraction (units_of x) (pos (10 ^ places_of x)) c.reduced.result = search rules in
    λ e. positive_is_nonzero (omega linear) (fraction.zero_denominator.0 e)
