use Rattle.cellarcove_c.proofs.Common.{◌<ℤ◌, pos, FitsSigned, refl, rules, w64}
use Rattle.cellarcove_c.proofs.FractionOrders.{results_compare_alike}
use Rattle.cellarcove_c.proofs.fractions.cellarcove_fraction_cmp.Goals as goal

pub returns-then-b-gt0 : goal.returns-then-b-gt0
returns-then-b-gt0 c =
    let a_fits : FitsSigned w64 c.args.a.num = search rules in
    let b_fits : FitsSigned w64 c.args.a.den = search rules in
    let c_fits : FitsSigned w64 c.args.b.num = search rules in
    let d_fits : FitsSigned w64 c.args.b.den = search rules in
    let b_up : pos 0 <ℤ c.args.a.den = search rules in
    let d_up : pos 0 <ℤ c.args.b.den = search rules in
    rw c.of.ensures (results_compare_alike a_fits b_fits c_fits d_fits b_up d_up refl c.order_by_products.ensures)
