use Rattle.cellarcove_c.proofs.Common.{FitsSigned, negsuc, w64, arith, ints, map-id}
use Rattle.cellarcove_c.proofs.Weaker.{in_domain, second_only}
use Rattle.cellarcove_c.proofs.lists.cellarcove_gcd_of_i64.Goals as goal

pub returns : goal.returns
returns c =
    let minus_one : FitsSigned w64 (negsuc 0) = omega (arith, ints) in
    let own = rw (map-id c.args.numbers.now) at c.gcd_of.ensures in
    record {
      answer = rw c.of.ensures.answer (second_only _ _ _ c.gcd_of.result (in_domain _ _ minus_one c.gcd_of.result own));
      refusal = c.of.ensures.refusal;
    }
