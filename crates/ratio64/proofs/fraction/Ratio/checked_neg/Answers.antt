use Rattle.ratio64.proofs.Common.{rules, ◌≡◌, neg_ℤ, inl, w64, to_z, of_z, num_of, den_of}
use Rattle.ratio64.proofs.ReducedAnswers.{reduced_answer, reduced_refused}
use Rattle.ratio64.proofs.ReducedParts.{negated_reduced}
use Rattle.ratio64.proofs.fraction.Ratio.checked_neg.Goals as goal

pub invariant_of-result : goal.invariant_of-result
invariant_of-result c =
    let x = c.args.self.now in
    let num : to_z w64 (of_z w64 c.in-Some.num) ≡ neg_ℤ (num_of x) = search rules in
    let den : to_z w64 (of_z w64 x.den) ≡ den_of x = search rules in
    record { reduced = rw (num, den) (negated_reduced x.reduced) }

pub returns-in-Some-clause-negation : goal.returns-in-Some-clause-negation
returns-in-Some-clause-negation c = reduced_answer _ (search rules) (search rules) (search rules) (search rules)

pub returns-in-None-clause-negation : goal.returns-in-None-clause-negation
returns-in-None-clause-negation c =
    reduced_refused (negated_reduced c.args.self.now.reduced) (inl (search rules))
