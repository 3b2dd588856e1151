use Rattle.std.proofs.Common.{rules}
use Rattle.ratio64.proofs.Common.{◌≡◌, ◌^◌, ◌*ℤ◌, ◌∙◌, refl, den_of, num_of, of_z, pos, to_z, w128, coprime_divides, iff_false, Divides, IsFloored, IsQuotient}
use Rattle.ratio64.proofs.DecimalTexts.{few_places, fitting_scale}
use Rattle.ratio64.proofs.ExactDecimals.{scale_divides, units_exact}
use Rattle.ratio64.proofs.WideSums.{read}
use Rattle.ratio64.proofs.fraction.Ratio.to_decimal_exactly.Goals as goal

pub returns-in_err-scale : goal.returns-in_err-scale
returns-in_err-scale c = rw c.from_residual.ensures (λ h. c.in_err-scale.ensures (fitting_scale c.args.places h.0))

pub returns-then-not-is_multiple_of : goal.returns-then-not-is_multiple_of
returns-then-not-is_multiple_of c =
    let x = c.args.self.now in
    λ h. let own : Divides (den_of x) (pos (10 ^ c.args.places)) = coprime_divides x.reduced.lowest h.1 in
    iff_false c.is_multiple_of.ensures c.if-not-is_multiple_of.true (search rules)

pub invariant_of-result : goal.invariant_of-result
invariant_of-result c =
    let own = c.product-units.ensures in
    record { few = few_places c.args.places c.in_ok-scale.ensures.0; below = rw (read c.product-units.result own.below) own.below }

pub returns : goal.returns
returns c =
    let x = c.args.self.now in
    let divisor = c.is_multiple_of.ensures.0 c.if-not-is_multiple_of.false in
    let own : Divides (den_of x) (pos (10 ^ c.args.places)) = search rules in
    let quotient : IsQuotient IsFloored (pos (10 ^ c.args.places)) (den_of x) c.div_floor.result = search rules in
    let product : c.product-units.result ≡ num_of x *ℤ c.div_floor.result = search rules in
    let units : to_z w128 (of_z w128 c.product-units.result) ≡ num_of x *ℤ c.div_floor.result =
    read c.product-units.result c.product-units.ensures.below ∙ product in
    ((few_places c.args.places c.in_ok-scale.ensures.0, scale_divides (num_of x) own), (refl, rw units (units_exact (num_of x) x.reduced.positive quotient own)))
