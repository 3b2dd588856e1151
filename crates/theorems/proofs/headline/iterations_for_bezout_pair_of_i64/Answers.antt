use Rattle.std.proofs.lemmas.Int.{to_z-of_z}
use Rattle.theorems.proofs.headline.iterations_for_bezout_pair_of_i64.Goals as goal

pub returns : goal.returns
returns c =
    let a = c.ranges.a in
    let b = c.ranges.b in
    let e = simp to_z-of_z at c.extended_gcd_counted.ensures in
    record { named = e.answer; iterations = e.iterations; bound = e.bound }
