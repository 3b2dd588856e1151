use Rattle.std.proofs.Common.{ap, ℤ}
use Rattle.std.proofs.lemmas.Int.{to_z-of_z}
use Rattle.num_integer.proofs.Laws as law
use Rattle.theorems.proofs.headline.bezout_pair_of_i64.Goals as goal

pub returns : goal.returns
returns c =
    let a_fits = c.ranges.a in
    let b_fits = c.ranges.b in
    let answer = simp to_z-of_z at c.extended_gcd.ensures.answer in
    record {
      greatest = answer.greatest;
      certified = answer.equation;
      named = answer;
      only = λ needs (x, y) small. ap (λ (triple : ℤ × ℤ × ℤ). (triple.1, triple.2)) (law.bezout_answer_is_only _ _ _ _ _ answer (_, x, y) (record {
        greatest = answer.greatest;
        equation = small.equation;
        second_divides = λ h. absurd (needs.not_second h);
        first_divides = λ _ h. absurd (needs.not_first h);
        both = λ _. small;
      }));
    }
