use Rattle.ratio64.proofs.Common.{◌≡◌, arith, gcd_swap, ints, Neighbour}
use Rattle.ratio64.proofs.LimitedDenominators.{lowest_natural, nearer_is_limited}
use Rattle.ratio64.proofs.NearestParts.{above_one, nearer_reciprocal, parts_of_nearest, reciprocal}
use Rattle.ratio64.proofs.NeighbourIterations.{gaps_make}
use Rattle.ratio64.proofs.neighbours.nearest_parts.Goals as goal

reciprocal_is : {x z : Neighbour} → z.num ≡ x.den → z.den ≡ x.num → z.gap ≡ x.gap → z ≡ reciprocal x
reciprocal_is num den same = λ i. record { num = num i; den = den i; gap = same i }

pub neighbours-requires-clause-lowest : goal.neighbours-requires-clause-lowest
neighbours-requires-clause-lowest c = lowest_natural c.requires.lowest

pub nearer-requires : goal.nearer-requires
nearer-requires c = omega (arith, (gaps_make c.neighbours.ensures.neighbours).0, c.requires.half)

pub neighbours-requires-else-num-den-clause-proper : goal.neighbours-requires-else-num-den-clause-proper
neighbours-requires-else-num-den-clause-proper c = above_one c.requires.positive c.requires.above_max c.if-num-den.false c.requires.lowest

pub neighbours-requires-else-num-den-clause-lowest : goal.neighbours-requires-else-num-den-clause-lowest
neighbours-requires-else-num-den-clause-lowest c =
    lowest_natural (record { positive = omega (ints, c.requires.lowest.positive); lowest = gcd_swap c.requires.lowest.lowest })

pub nearer-requires-else-num-den : goal.nearer-requires-else-num-den
nearer-requires-else-num-den c =
    let made = (gaps_make c.neighbours-else-num-den.ensures.neighbours).1 in
    rw (c.reciprocal.ensures.gap, c.reciprocal.ensures.den, c.reciprocal-else-num-den.ensures.gap, c.reciprocal-else-num-den.ensures.den) (omega (arith, made, c.requires.half))

pub returns-then-num-den : goal.returns-then-num-den
returns-then-num-den c =
    let h = nearer_is_limited c.neighbours.ensures.neighbours c.neighbours.ensures.none_between c.nearer.ensures in
    record { nearest = parts_of_nearest h.part.proper h.nearest; reduced = h.reduced }

pub returns-else-num-den : goal.returns-else-num-den
returns-else-num-den c =
    let at = c.neighbours-else-num-den.ensures in
    let lower = reciprocal_is c.reciprocal.ensures.num c.reciprocal.ensures.den c.reciprocal.ensures.gap in
    let upper = reciprocal_is c.reciprocal-else-num-den.ensures.num c.reciprocal-else-num-den.ensures.den c.reciprocal-else-num-den.ensures.gap in
    let near = rw (lower, upper) at c.nearer-else-num-den.ensures in
    let h = nearer_reciprocal at.neighbours (omega (ints, c.requires.lowest.positive)) at.none_between near in
    record { nearest = h.0; reduced = h.1 }
