use Rattle.std.proofs.Common.{ap, ℤ}
use Rattle.num_integer.proofs.Laws as law
use Rattle.theorems.proofs.headline.bezout_pair.Goals as goal

pub returns-clause-only : goal.returns-clause-only
returns-clause-only g c = λ needs (x, y) small.
    let answer = c.extended_gcd.ensures.answer in
    let same = law.bezout_answer_is_only _ _ _ _ _ answer (_, x, y) (record {
      greatest = answer.greatest;
      equation = small.equation;
      second_divides = λ h. absurd (needs.not_second h);
      first_divides = λ _ h. absurd (needs.not_first h);
      both = λ _. small;
    }) in
    ap (λ (triple : ℤ × ℤ × ℤ). (triple.1, triple.2)) same
