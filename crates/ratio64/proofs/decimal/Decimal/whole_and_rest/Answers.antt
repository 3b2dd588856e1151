use Rattle.std.proofs.Common.{rules}
use Rattle.ratio64.proofs.Common.{◌≡◌, ◌-◌, ◌^◌, linear, of_z, places_of, pos, positive_is_nonzero, to_z, to_z-of_z, units_of, w128, IsFloored}
use Rattle.ratio64.proofs.DecimalOrder.{computed_parts}
use Rattle.ratio64.proofs.DecimalTexts.{ten_up}
use Rattle.ratio64.proofs.decimal.Decimal.whole_and_rest.Goals as goal

pub div_mod_floor-whole-requires-clause-nonzero : goal.div_mod_floor-whole-requires-clause-nonzero
div_mod_floor-whole-requires-clause-nonzero c =
    let up = ten_up (places_of c.args.self.now) in
    let scale : to_z w128 (of_z w128 c.pow.result) ≡ pos (10 ^ places_of c.args.self.now) = search rules in
    rw scale (positive_is_nonzero (omega linear))

pub overflow_mul-result : goal.overflow_mul-result
overflow_mul-result c =
    let x = c.args.self.now in
    let own = c.div_mod_floor-whole.ensures in
    let floored : IsFloored (units_of x) (pos (10 ^ places_of x)) c.div_mod_floor-whole.result.0 c.div_mod_floor-whole.result.1 = search rules in
    let scale : to_z w128 (of_z w128 c.pow-2.result) ≡ pos (10 ^ (18 - places_of x)) = search rules in
    (computed_parts (places_of x) x.few floored (to_z-of_z w128 _ own.in_range.0) (to_z-of_z w128 _ own.in_range.1) scale).0

pub returns : goal.returns
returns c =
    let x = c.args.self.now in
    let own = c.div_mod_floor-whole.ensures in
    let floored : IsFloored (units_of x) (pos (10 ^ places_of x)) c.div_mod_floor-whole.result.0 c.div_mod_floor-whole.result.1 = search rules in
    let scale : to_z w128 (of_z w128 c.pow-2.result) ≡ pos (10 ^ (18 - places_of x)) = search rules in
    let h = computed_parts (places_of x) x.few floored (to_z-of_z w128 _ own.in_range.0) (to_z-of_z w128 _ own.in_range.1) scale in
    record { number = h.1; rest = (h.2, h.3) }
