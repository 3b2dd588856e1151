use Rattle.std.proofs.Common.{ap}
use Rattle.num_integer.proofs.Laws as law
use Rattle.theorems.proofs.headline.bezout_pair_by_two_calls.Goals as goal

pub returns : goal.returns
returns g c =
    let same = law.bezout_answer_is_only _ _ _ _ _ c.extended_gcd.ensures.answer (_, _, _) c.extended_gcd_counted.ensures.answer in
    record {
      in_range = c.extended_gcd.ensures.in_range;
      second_in_range = c.extended_gcd_counted.ensures.in_range;
      named = c.extended_gcd.ensures.answer;
      same_gcd = ap (λ pair. pair.0) same;
      same_x = ap (λ pair. pair.1) same;
      same_y = ap (λ pair. pair.2) same;
    }
