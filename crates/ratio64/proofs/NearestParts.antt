-- The nearest fraction with two small parts.
use Rattle.ratio64.proofs.Common.{◌≡◌, ◌⊎◌, ◌<◌, ◌≤◌, ◌+◌, ◌*◌, ◌<ℤ◌, ◌≤ℤ◌, ℤ, ℕ, pos, negsuc, neg_ℤ, unsigned_abs, arith, ap, inl, inr, le_of_mul-le-mul_right, refl, subst, ints, Divides_refl, neg_mul, products, sizes, Divides, Neighbour, IsReduced, AreNearestParts, IsNearestWithin, gap, AreNeighbours, IsNearer}
use Rattle.ratio64.proofs.ExactResults.{whole_exactly}
use Rattle.ratio64.proofs.ReducedParts.{negated_reduced}
use Rattle.ratio64.proofs.NearerNeighbour.{AreAround, IsOutside, nearer_is_nearest, positive_by_product}

-- ---- the sign

turned : (n d u v : ℤ) → gap (neg_ℤ n) d u v ≡ gap n d (neg_ℤ u) v
turned n d u v = omega (sizes, neg_mul n v, neg_mul u d)

negated_parts : {n d max a b : ℤ} → AreNearestParts n d max a b → AreNearestParts (neg_ℤ n) d max (neg_ℤ a) b
negated_parts {n} {d} {max} {a} {b} x =
    let twice : neg_ℤ (neg_ℤ a) ≡ a = omega sizes in
    let size : (u : ℤ) → unsigned_abs (neg_ℤ u) ≡ unsigned_abs u = λ u. omega sizes in
    record {
      positive = x.positive;
      bounded = rw (size a) x.bounded;
      nearest = λ u v up v_most u_most. rw (turned n d (neg_ℤ a) b, turned n d u v, twice) (x.nearest (neg_ℤ u) v up v_most (rw (size u) u_most));
      tie = λ u v up v_most u_most same.
          let least = x.tie (neg_ℤ u) v up v_most (rw (size u) u_most) (rw (turned n d (neg_ℤ a) b, turned n d u v, twice) at same) in
          (least.0, λ one. omega (arith, least.1 one, size a, size u));
    }

-- the nearest parts of a magnitude, with the sign
pub signed_parts : {d max b : ℤ} {a : ℕ} (n m : ℤ) → (n <ℤ pos 0 → m ≡ neg_ℤ (pos a)) → (pos 0 ≤ℤ n → m ≡ pos a)
    → AreNearestParts (pos (unsigned_abs n)) d max (pos a) b → AreNearestParts n d max m b
signed_parts (pos n) m negative other x = rw (other (omega ints)) x
signed_parts (negsuc n) m negative other x = rw (negative (omega ints)) (negated_parts x)

pub signed_reduced : {b : ℤ} {a : ℕ} (n m : ℤ) → (n <ℤ pos 0 → m ≡ neg_ℤ (pos a)) → (pos 0 ≤ℤ n → m ≡ pos a) → IsReduced (pos a) b → IsReduced m b
signed_reduced (pos n) m negative other x = rw (other (omega ints)) x
signed_reduced (negsuc n) m negative other x = rw (negative (omega ints)) (negated_reduced x)

-- ---- no two over one denominator

same_or_negated : (u num : ℤ) → unsigned_abs u ≡ unsigned_abs num → (u ≡ num) ⊎ (u ≡ neg_ℤ num)
same_or_negated u num size = grind sizes

-- two numerators of the same size and of two signs would both be farther than 0
pub same_numerator : {n d max num u den : ℤ} → AreNearestParts n d max num den → AreNearestParts n d max u den
    → unsigned_abs u ≡ unsigned_abs num → u ≡ num
same_numerator {n} {d} {max} {num} {u} {den} x y size =
    let up : 0 < unsigned_abs den = omega (sizes, x.positive) in
    let low : pos (unsigned_abs (pos 0)) ≤ℤ max = omega (sizes, x.positive, x.bounded.0) in
    let own = le_of_mul-le-mul_right {m = gap n d num den} {n = gap n d (pos 0) den} {k = unsigned_abs den} (x.nearest (pos 0) den x.positive x.bounded.0 low) up in
    let other = le_of_mul-le-mul_right {m = gap n d u den} {n = gap n d (pos 0) den} {k = unsigned_abs den} (y.nearest (pos 0) den y.positive y.bounded.0 low) up in
    elim (same_or_negated u num size) [
      | inl same ↦ same
      | inr negated ↦
          let far = rw (negated, neg_mul num d) at other in
          let same : gap n d num den ≡ gap n d (pos 0) den = omega (sizes, products, own, far) in
          let least = (x.tie (pos 0) den x.positive x.bounded.0 low (ap (λ (t : ℕ). t * unsigned_abs den) same)).1 refl in
          omega (sizes, negated)
    ]

-- ---- a fraction below 1: the limit on the denominators decides

pub parts_of_nearest : {n d max a b : ℕ} → a ≤ b → IsNearestWithin (pos n) (pos d) (pos max) (pos a) (pos b)
    → AreNearestParts (pos n) (pos d) (pos max) (pos a) (pos b)
parts_of_nearest {n} {d} {max} {a} {b} proper x = grind arith

-- ---- a fraction above 1: the limit on the numerators does

-- the reciprocal of a fraction above 1
pub above_one : {n d max : ℕ} → 0 < max → (max < n) ⊎ (max < d) → d ≤ n → IsReduced (pos n) (pos d) → d < n
above_one {n} {d} {max} up above most x =
    let one : d ≡ n → pos d ≡ pos 1 = λ same. (whole_exactly x).0 (subst (λ (t : ℕ). Divides (pos d) (pos t)) same (Divides_refl (pos d))) in
    grind ints

abbrev pub reciprocal : Neighbour → Neighbour
reciprocal x = record { num = x.den; den = x.num; gap = x.gap }

-- of the reciprocals of the neighbours of d/n
pub nearer_reciprocal : {n d max : ℕ} {x y z : Neighbour} → AreNeighbours d n max x y → 0 < d → max < x.den + y.den
    → IsNearer (reciprocal y) (reciprocal x) z → AreNearestParts (pos n) (pos d) (pos max) (pos z.num) (pos z.den) × IsReduced (pos z.num) (pos z.den)
nearer_reciprocal {n} {d} {max} {x} {y} {z} h up none near =
    let num_up = positive_by_product x.den y.num (omega (arith, h.adjacent)) in
    let around : AreAround n d (reciprocal y) (reciprocal x) =
    record { from_below = omega arith; from_above = omega arith; adjacent = omega arith; ups = (up, num_up, h.gaps.1, h.gaps.0) } in
    let is = nearer_is_nearest around near in
    let small : (z.den ≤ max) × (z.num ≤ max) = elim near.is [
      | inl k ↦ rw k.0 (omega (arith, h.nums, h.bounded), h.bounded.1)
      | inr k ↦ rw k.0 (omega (arith, h.nums, h.bounded), h.bounded.0)
    ] in
    let outside : (u v : ℤ) → pos (unsigned_abs u) ≤ℤ pos max → IsOutside (reciprocal y) (reciprocal x) u v = λ u v most.
    inr (h.dens.1, h.dens.0, omega sizes) in (
      record {
        positive = is.0.positive;
        bounded = (omega (ints, small.0), omega (ints, small.1));
        nearest = λ u v up v_most u_most. (is.1 u v up (outside u v u_most)).0;
        tie = λ u v up v_most u_most same. let own = (is.1 u v up (outside u v u_most)).1 same in (own.0, λ one. omega (sizes, own.1 one));
      },
      is.0,
    )
