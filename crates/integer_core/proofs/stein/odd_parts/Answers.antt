use Rattle.integer_core.proofs.ForAnswers.{ℤ, gcd_of_odd_parts, gcd_of_sizes, gcd_fits}
use Rattle.integer_core.proofs.stein.odd_parts.Goals as goal

pub returns-clause-gcd : goal.returns-clause-gcd
returns-clause-gcd g c odd h =
    let left = c.odd_part-m.ensures in
    let right = c.odd_part-n.ensures in
    let all = gcd_of_odd_parts _ _ left.product right.product c.min.ensures left.odd right.odd h in
    let exact = g.met.M.Integral.exact_law in
    let within = λ (y : ℤ). g.M.Number.between_law _ y _ exact g.met.M.Magnitude.zero_fits_law c.requires.operands.a_in_range in
    (gcd_of_sizes _ _ all, gcd_fits within (g.met.M.Magnitude.unsigned_law c.args.a) c.requires.operands.a_positive all)
