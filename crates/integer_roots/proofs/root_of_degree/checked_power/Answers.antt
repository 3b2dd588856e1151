use Rattle.integer_roots.proofs.Common.{◌≡◌, ◌-◌, ◌/◌, ◌^◌, arith, div-le_self, div-one, div_below, le-div, pow-add, pow-le-pow_right, pow_pos, refl}
use Rattle.integer_roots.proofs.Powers.{even_next, odd_next, power_one, square_within}
use Rattle.integer_roots.proofs.root_of_degree.checked_power.Goals as goal

pub loop-place-init : goal.loop-place-init
loop-place-init c =
    let top = c.ilog2-place.result in
    let one : c.args.k / 2 ^ top ≡ 1 = omega
    (arith, le-div 1 c.args.k _ (pow_pos top) (omega arith), div_below c.args.k _ 2 (pow_pos top) (omega (arith, pow-add 2 top 1))) in
    record { is = rw (one, power_one) refl; fits = omega arith }

pub returns-in_err-power : goal.returns-in_err-power
returns-in_err-power c =
    let within = square_within c.args.x c.args.k {p = c.loop-place.place - 1} (omega arith) c.loop-place.invariant.is c.requires.positive in
    rw c.from_residual.ensures (λ fits. c.in_err-power.ensures (omega arith))

pub returns-in_err-power-2 : goal.returns-in_err-power-2
returns-in_err-power-2 c =
    let is = odd_next c.args.x c.args.k {p = c.loop-place.place - 1} (omega arith) c.loop-place.invariant.is c.if-k-place-eq1.true in
    let within = pow-le-pow_right c.requires.positive {j = c.args.k} (div-le_self c.args.k (2 ^ (c.loop-place.place - 1))) in
    rw c.from_residual-in_err-power-2.ensures (λ fits. c.in_err-power-2.ensures (rw c.in_ok-power.ensures.1 (omega (arith, is, within))))

pub loop-place-preserved-then-k-place-eq1 : goal.loop-place-preserved-then-k-place-eq1
loop-place-preserved-then-k-place-eq1 c = grind (arith, odd_next)

pub loop-place-preserved : goal.loop-place-preserved
loop-place-preserved c = grind (arith, even_next)

pub returns : goal.returns
returns c =
    let none : c.loop-place.place ≡ 0 = omega arith in
    let is : c.loop-place.power ≡ c.args.x ^ c.args.k = cc (rw none at c.loop-place.invariant.is, div-one c.args.k) in
    (omega (arith, is), is)
