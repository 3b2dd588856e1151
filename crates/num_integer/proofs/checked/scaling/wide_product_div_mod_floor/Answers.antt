use Rattle.num_integer.proofs.Common.{◌*ℤ◌, not, subst, IsFloored, floored_remainder_fits, only_floored, signed}
use Rattle.std.proofs.Math.Bool.{beq}
use Rattle.num_integer.proofs.FlooredProducts.{division_by_magnitudes}
use Rattle.num_integer.proofs.checked.scaling.wide_product_div_mod_floor.Given.{Over}
use Rattle.num_integer.proofs.checked.scaling.wide_product_div_mod_floor.Goals.{After-floored-quotient}
use Rattle.num_integer.proofs.checked.scaling.wide_product_div_mod_floor.Goals as goal

-- the division of the numbers themselves
division : (g : Over) (c : After-floored-quotient g) → IsFloored (g.T.Number.value c.args.a *ℤ g.T.Number.value c.args.b) (g.T.Number.value c.args.d)
    (signed (not (beq c.parts_of_product-product.result.0 c.parts_of-divisor.result.0)) c.floored-quotient.result.0) (signed c.parts_of-divisor.result.0 c.floored-quotient.result.1)
division g c = rw (c.parts_of_product-product.ensures, c.parts_of-divisor.ensures) at
    (division_by_magnitudes c.parts_of_product-product.result.0 c.parts_of-divisor.result.0 c.parts_of_product-product.result.1 c.parts_of-divisor.result.1 (rw c.from.ensures at c.floored-quotient.ensures))

pub returns-in_err-quotient : goal.returns-in_err-quotient
returns-in_err-quotient g c =
    let own = division g (goal.at.returns-in_err-quotient g c).After-floored-quotient in
    rw c.from_residual.ensures (λ each. c.in_err-quotient.ensures (each _ record { remainder = _; division = own }))

pub returns-in_err-rest : goal.returns-in_err-rest
returns-in_err-rest g c =
    let own = division g (goal.at.returns-in_err-rest g c).After-floored-quotient in
    absurd (c.in_err-rest.ensures (floored_remainder_fits g.met.T.Integer.range_law c.requires.in_range.2 own))

pub returns : goal.returns
returns g c =
    let own = division g (goal.at.returns g c).After-floored-quotient in
    let q = c.in_ok-quotient.ensures in
    let r = c.in_ok-rest.ensures in
    (λ p h. subst g.T.Number.fits (only_floored own h.division).0 q.0, (q.1.0, r.1.0, rw (q.1.1, r.1.1) own))
