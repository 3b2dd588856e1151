use Rattle.ratio64.proofs.Common.{int_pow, ◌≡◌, Err, inl, inr, of_z, rules, to_z, w64, NotFitting, num_of, den_of}
use Rattle.ratio64.proofs.FractionPowers.{power_reduced}
use Rattle.ratio64.proofs.ReducedAnswers.{reduced_answer, reduced_refused}
use Rattle.ratio64.proofs.fraction.Ratio.power.Goals as goal

pub returns-in_err-num : goal.returns-in_err-num
returns-in_err-num c =
    let is : c.from_residual.result ≡ Err NotFitting = search rules in
    rw is (reduced_refused (power_reduced c.args.degree c.args.self.now.reduced) (inl (search rules)))

pub returns-in_err-den : goal.returns-in_err-den
returns-in_err-den c =
    let is : c.from_residual-in_err-den.result ≡ Err NotFitting = search rules in
    rw is (reduced_refused (power_reduced c.args.degree c.args.self.now.reduced) (inr (search rules)))

pub invariant_of-result : goal.invariant_of-result
invariant_of-result c =
    let x = c.args.self.now in
    let num : to_z w64 (of_z w64 c.in_ok-num.num) ≡ int_pow (num_of x) c.args.degree = search rules in
    let den : to_z w64 (of_z w64 c.in_ok-den.den) ≡ int_pow (den_of x) c.args.degree = search rules in
    record { reduced = rw (num, den) (power_reduced c.args.degree x.reduced) }

pub returns : goal.returns
returns c = reduced_answer _ (search rules) (search rules) (search rules) (search rules)
