use Rattle.ratio64.proofs.Common.{◌≡◌, ◌<◌, ◌^◌, ◌+ℤ◌, ◌*ℤ◌, FitsSigned, arith, pos, rules, w64, ints, linear, sizes, to_z-of_z, to_z_pos, num_of, den_of}
use Rattle.ratio64.proofs.LimitedDenominators.{IsLimited, IsSplit, lowest_natural, nearer_is_limited, nearest_with_whole, part_fits, reduced_with_whole}
use Rattle.ratio64.proofs.NearerNeighbour.{itself_is_nearest}
use Rattle.ratio64.proofs.NearestNumbers.{quotient_fits}
use Rattle.ratio64.proofs.NeighbourIterations.{gaps_make}
use Rattle.ratio64.proofs.ReducedParts.{remainder_reduced}
use Rattle.ratio64.proofs.WideSums.{positive_size}
use Rattle.ratio64.proofs.fraction.Ratio.limit_denominator.Goals as goal
use Rattle.ratio64.proofs.fraction.Ratio.limit_denominator.Goals.{After-nearer-nearest, After-numerator, After-unsigned_abs-limit}

-- the fraction is the integer and the part
split : (c : After-unsigned_abs-limit)
    → IsSplit (num_of c.args.self.now) (den_of c.args.self.now) c.div_mod_floor-whole.result.0 c.unsigned_abs-part.result c.unsigned_abs-den.result
split c =
    let num : FitsSigned w64 c.args.self.now.num = search rules in
    let den : FitsSigned w64 c.args.self.now.den = search rules in
    let part : FitsSigned w64 c.div_mod_floor-whole.result.1 = search rules in
    let x = c.args.self.now.reduced in
    let h = simp to_z-of_z at c.div_mod_floor-whole.ensures.floored in
    let rest = simp to_z-of_z at c.unsigned_abs-part.ensures.value in
    let bottom = simp to_z-of_z at c.unsigned_abs-den.ensures.value in
    let part_is : pos c.unsigned_abs-part.result ≡ c.div_mod_floor-whole.result.1 = omega (sizes, rest, h, x.positive) in
    let den_is : pos c.unsigned_abs-den.result ≡ den_of c.args.self.now = omega (sizes, bottom, x.positive) in
    let equation = rw (← part_is, ← den_is) at h.division.equation in
    let reduced = remainder_reduced c.div_mod_floor-whole.result.0 (rw den_is x) equation in
    record { den = den_is; equation = equation; reduced = reduced }

limit : (c : After-nearer-nearest) → (pos c.unsigned_abs-limit.result ≡ c.args.max) × (c.unsigned_abs-limit.result < 2 ^ 63)
limit c = rw (rw (to_z-of_z w64 c.args.max c.ranges.max) at c.unsigned_abs-limit.ensures.value) (positive_size c.args.max c.ranges.max c.requires)

near : (c : After-nearer-nearest) → IsLimited c.unsigned_abs-part.result c.unsigned_abs-den.result c.unsigned_abs-limit.result c.nearer-nearest.result
near c = nearer_is_limited c.neighbours.ensures.neighbours c.neighbours.ensures.none_between c.nearer-nearest.ensures

small : (c : After-nearer-nearest) → c.nearer-nearest.result.den < 2 ^ 63
small c = omega (ints, (near c).nearest.bounded, limit c)

sum : (c : After-numerator)
    → c.numerator.result ≡ c.div_mod_floor-whole.result.0 *ℤ pos c.nearer-nearest.result.den +ℤ pos c.nearer-nearest.result.num
sum c = rw (to_z-of_z w64 c.div_mod_floor-whole.result.0 (search rules)) at c.numerator.ensures

pub returns-then-self-max : goal.returns-then-self-max
returns-then-self-max c =
    let reduced = c.args.self.now.reduced in
    record {
      positive = reduced.positive;
      bounded = omega ints;
      nearest = λ u v up most. (itself_is_nearest {u = u} reduced up).0;
      tie = λ u v up most same. let least = (itself_is_nearest {u = u} reduced up).1 same in (least.0, λ one. omega (linear, least.1 one));
    }

pub div_mod_floor-whole-requires-clause-quotient_fits : goal.div_mod_floor-whole-requires-clause-quotient_fits
div_mod_floor-whole-requires-clause-quotient_fits c =
    let x = c.args.self.now in
    let num : FitsSigned w64 (num_of x) = search rules in
    let den : FitsSigned w64 (den_of x) = search rules in
    rw (to_z-of_z w64 (num_of x) num, to_z-of_z w64 (den_of x) den) (λ q h. quotient_fits x.reduced.positive h.division.division w64 num)

pub neighbours-requires-clause-lowest : goal.neighbours-requires-clause-lowest
neighbours-requires-clause-lowest c = lowest_natural (split (goal.at.neighbours-requires-clause-lowest c).After-unsigned_abs-limit).reduced

pub nearer-nearest-requires : goal.nearer-nearest-requires
nearer-nearest-requires c = omega (arith, (gaps_make c.neighbours.ensures.neighbours).0, c.unsigned_abs-den.type_inv)

pub numerator-requires-clause-den : goal.numerator-requires-clause-den
numerator-requires-clause-den c = small (goal.at.numerator-requires-clause-den c).After-nearer-nearest

pub numerator-requires-clause-fits : goal.numerator-requires-clause-fits
numerator-requires-clause-fits c =
    let at = goal.at.numerator-requires-clause-fits c in
    let equation = (split at.After-unsigned_abs-limit).equation in
    rw (to_z-of_z w64 c.div_mod_floor-whole.result.0 (search rules)) (part_fits _ _ equation (near at.After-nearer-nearest).part (search rules))

pub overflow_cast-result : goal.overflow_cast-result
overflow_cast-result c = record { sfits = omega (arith, small (goal.at.overflow_cast-result c).After-nearer-nearest) }

pub invariant_of-result : goal.invariant_of-result
invariant_of-result c =
    let at = goal.at.invariant_of-result c in
    let den = to_z_pos w64 c.nearer-nearest.result.den (small at.After-nearer-nearest) in
    let reduced = reduced_with_whole (split at.After-unsigned_abs-limit) (near at.After-nearer-nearest) in
    record { reduced = rw (to_z-of_z w64 c.numerator.result (search rules), den, sum at.After-numerator) reduced }

pub returns : goal.returns
returns c =
    let at = goal.at.returns c in
    let den = to_z_pos w64 c.nearer-nearest.result.den (small at.After-nearer-nearest) in
    let nearest = nearest_with_whole (split at.After-unsigned_abs-limit) (near at.After-nearer-nearest) in
    rw (to_z-of_z w64 c.numerator.result (search rules), den, sum at.After-numerator) (rw (limit at.After-nearer-nearest).0 at nearest)
