use Rattle.ratio64.proofs.Common.{◌≡◌, ◌<◌, ◌^◌, FitsSigned, arith, pos, rules, unsigned_abs, w64, ints, to_z-of_z, to_z_pos, num_of, den_of}
use Rattle.ratio64.proofs.NearerNeighbour.{itself_is_nearest}
use Rattle.ratio64.proofs.NearestParts.{signed_parts, signed_reduced}
use Rattle.ratio64.proofs.ReducedParts.{magnitude_reduced}
use Rattle.ratio64.proofs.WideSums.{numbers_read}
use Rattle.ratio64.proofs.fraction.Ratio.limit_parts.Goals as goal
use Rattle.ratio64.proofs.fraction.Ratio.limit_parts.Goals.{After-nearest_parts-nearest, After-unsigned_abs-limit}

read : (c : After-unsigned_abs-limit) → (c.unsigned_abs-num.result ≡ unsigned_abs (num_of c.args.self.now))
    × (pos c.unsigned_abs-den.result ≡ den_of c.args.self.now) × (pos c.unsigned_abs-limit.result ≡ c.args.max)
read c = (grind (arith, numbers_read), grind (arith, numbers_read, c.args.self.now.reduced.positive), grind (arith, numbers_read))

small : (c : After-nearest_parts-nearest) → pos c.unsigned_abs-limit.result ≡ c.args.max → c.nearest_parts-nearest.result.den < 2 ^ 63
small c same = grind arith

pub returns-then-max-limit : goal.returns-then-max-limit
returns-then-max-limit c =
    let is = read (goal.at.returns-then-max-limit c).After-unsigned_abs-limit in
    let reduced = c.args.self.now.reduced in
    record {
      positive = reduced.positive;
      bounded = (omega (ints, c.max.ensures, c.if-max-limit.true, is), omega (ints, c.max.ensures, c.if-max-limit.true, is));
      nearest = λ u v up v_most u_most. (itself_is_nearest {u = u} reduced up).0;
      tie = λ u v up v_most u_most same. let own = (itself_is_nearest {u = u} reduced up).1 same in (own.0, λ one. rw (own.1 one) (omega arith));
    }

pub nearest_parts-nearest-requires-clause-lowest : goal.nearest_parts-nearest-requires-clause-lowest
nearest_parts-nearest-requires-clause-lowest c =
    let is = read (goal.at.nearest_parts-nearest-requires-clause-lowest c).After-unsigned_abs-limit in
    rw (is.0, is.1) (magnitude_reduced (num_of c.args.self.now) c.args.self.now.reduced)

pub invariant_of-result : goal.invariant_of-result
invariant_of-result c =
    let at = goal.at.invariant_of-result c in
    let den = to_z_pos w64 c.nearest_parts-nearest.result.den (small at.After-nearest_parts-nearest (read at.After-unsigned_abs-limit).2) in
    let num : FitsSigned w64 c.args.self.now.num = search rules in
    let sign = simp to_z-of_z at c.with_magnitude.ensures in
    let own = to_z-of_z w64 c.with_magnitude.result (search rules) in
    record { reduced = rw (own, den) (signed_reduced (num_of c.args.self.now) _ sign.below_zero sign.from_zero c.nearest_parts-nearest.ensures.reduced) }

pub returns : goal.returns
returns c =
    let at = goal.at.returns c in
    let is = read at.After-unsigned_abs-limit in
    let den = to_z_pos w64 c.nearest_parts-nearest.result.den (small at.After-nearest_parts-nearest is.2) in
    let num : FitsSigned w64 c.args.self.now.num = search rules in
    let sign = simp to_z-of_z at c.with_magnitude.ensures in
    let own = to_z-of_z w64 c.with_magnitude.result (search rules) in
    let nearest = rw (is.0, is.1, is.2) at c.nearest_parts-nearest.ensures.nearest in
    rw (own, den) (signed_parts (num_of c.args.self.now) _ sign.below_zero sign.from_zero nearest)
