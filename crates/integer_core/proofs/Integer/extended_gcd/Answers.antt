use Rattle.integer_core.proofs.Integer.extended_gcd.Goals as goal

pub returns : goal.returns
returns g c =
    let counted = c.extended_gcd_counted.ensures in
    record {
      in_range = counted.in_range;
      answer = counted.answer;
    }
