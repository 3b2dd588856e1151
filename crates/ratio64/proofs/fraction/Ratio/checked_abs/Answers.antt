use Rattle.ratio64.proofs.Common.{rules, ◌≡◌, inl, pos, unsigned_abs, w64, to_z, of_z, num_of, den_of}
use Rattle.ratio64.proofs.ReducedAnswers.{reduced_answer, reduced_refused}
use Rattle.ratio64.proofs.ReducedParts.{magnitude_fits, magnitude_outside, magnitude_reduced}
use Rattle.ratio64.proofs.fraction.Ratio.checked_abs.Goals as goal

pub invariant_of-result : goal.invariant_of-result
invariant_of-result c =
    let x = c.args.self.now in
    let num : to_z w64 (of_z w64 c.in-Some.num) ≡ pos (unsigned_abs (num_of x)) = search rules in
    let den : to_z w64 (of_z w64 x.den) ≡ den_of x = search rules in
    record { reduced = rw (num, den) (magnitude_reduced (num_of x) x.reduced) }

pub returns-in-Some-clause-magnitude : goal.returns-in-Some-clause-magnitude
returns-in-Some-clause-magnitude c =
    reduced_answer _ (search rules) (search rules) (magnitude_fits (num_of c.args.self.now) (search rules) (search rules)) (search rules)

pub returns-in-None-clause-magnitude : goal.returns-in-None-clause-magnitude
returns-in-None-clause-magnitude c =
    reduced_refused (magnitude_reduced _ c.args.self.now.reduced) (inl (magnitude_outside (num_of c.args.self.now) (search rules)))
