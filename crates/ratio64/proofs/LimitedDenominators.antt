-- An integer and the nearer neighbour of the rest.
use Rattle.ratio64.proofs.Common.{◌≡◌, ◌<◌, ◌≤◌, ◌+◌, ◌*◌, ◌<ℤ◌, ◌≤ℤ◌, ◌+ℤ◌, ◌-ℤ◌, ◌*ℤ◌, ℤ, ℕ, pos, neg_ℤ, zero, suc, FitsSigned, w64, arith, ap, inl, inr, mul-le-mul_left, ints, expand, linear, neg_mul, sizes, Neighbour, IsReduced, IsNearestWithin, gap, AreNeighbours, IsNearer}
use Rattle.ratio64.proofs.NearerNeighbour.{equal_least, nearer_is_nearest, positive_by_product}
use Rattle.ratio64.proofs.NeighbourIterations.{gaps_make}
use Rattle.ratio64.proofs.ReducedParts.{remainder_reduced}

-- a reduced fraction has the smallest denominator of all fractions that are equal to it
pub lowest_natural : {n d : ℕ} → IsReduced (pos n) (pos d) → (a b : ℕ) → 0 < b → n * b ≡ a * d → d ≤ b
lowest_natural {n} {d} x a b up e = omega (ints, (equal_least {a = pos n} {b = pos d} {u = pos a} {v = pos b} x (omega ints) (ap pos e)).0)

-- ---- the integer added

-- m/D is the integer w and n/d more, and D is d
pub record IsSplit (m bottom w : ℤ) (n d : ℕ) : Type 0 where
  pub den : pos d ≡ bottom
  pub equation : m ≡ w *ℤ pos d +ℤ pos n
  pub reduced : IsReduced (pos n) (pos d)

-- the nearest of the part makes the nearest of the whole
shifted : {n d max a b : ℤ} (w m : ℤ) → m ≡ w *ℤ d +ℤ n → IsNearestWithin n d max a b → IsNearestWithin m d max (w *ℤ b +ℤ a) b
shifted {n} {d} {max} {a} {b} w m e x =
    let times : (v : ℤ) → m *ℤ v ≡ (w *ℤ d +ℤ n) *ℤ v = λ v. ap (λ (t : ℤ). t *ℤ v) e in
    let own : gap m d (w *ℤ b +ℤ a) b ≡ gap n d a b = rw (times b) (simp expand (omega sizes)) in
    let other : (u v : ℤ) → gap m d u v ≡ gap n d (u -ℤ w *ℤ v) v = λ u v. rw (times v) (simp expand (omega sizes)) in
    record {
      positive = x.positive;
      bounded = x.bounded;
      nearest = λ u v up most. rw (own, other u v) (x.nearest (u -ℤ w *ℤ v) v up most);
      tie = λ u v up most tie.
          let least = x.tie (u -ℤ w *ℤ v) v up most (rw (own, other u v) at tie) in
          (least.0, λ one. let low = rw one at (least.1 one) in omega linear);
    }

-- the parts of a/b are at most those of n/d, and so is what a leaves of b
pub record IsPartOf (n d a b : ℕ) : Type 0 where
  pub num : a ≤ n
  pub den : b ≤ d
  pub proper : a ≤ b
  pub rest : b + n ≤ d + a

-- a sum of an integer and such a part lies between 0 and the sum of the integer and n/d
pub part_fits : {n d a b : ℕ} (w m : ℤ) → m ≡ w *ℤ pos d +ℤ pos n → IsPartOf n d a b → FitsSigned w64 m → FitsSigned w64 (w *ℤ pos b +ℤ pos a)
part_fits {n} {d} {a} {b} w m e part fits = grind arith

-- ---- the nearer neighbour

part_of : {n d a b c e : ℕ} (p q : ℕ) → d ≡ p * e + q * b → n ≡ p * c + q * a → 0 < q → a ≤ b → c ≤ e → IsPartOf n d a b
part_of p zero den num up proper other = absurd (omega arith)
part_of p (suc q) den num up proper other = omega (arith, mul-le-mul_left p other, mul-le-mul_left q proper)

-- it is the nearest fraction of all up to the limit, and it is reduced
pub record IsLimited (n d max : ℕ) (z : Neighbour) : Type 0 where
  pub nearest : IsNearestWithin (pos n) (pos d) (pos max) (pos z.num) (pos z.den)
  pub reduced : IsReduced (pos z.num) (pos z.den)
  pub part : IsPartOf n d z.num z.den

pub nearer_is_limited : {n d max : ℕ} {x y z : Neighbour} → AreNeighbours n d max x y → max < x.den + y.den → IsNearer x y z → IsLimited n d max z
nearer_is_limited {n} {d} {max} {x} {y} {z} h none near =
    let made = gaps_make h in
    let up = positive_by_product y.num d (omega (arith, h.from_above, h.gaps.1)) in
    let ups : (0 < d) × (0 < x.den) × (0 < x.gap) × (0 < y.gap) = (up, h.dens.0, h.gaps.0, h.gaps.1) in
    let is = nearer_is_nearest (record { from_below = h.from_below; from_above = h.from_above; adjacent = h.adjacent; ups = ups }) near in
    let chosen : (z.den ≤ max) × IsPartOf n d z.num z.den = elim near.is [
      | inl k ↦ rw k.0 (h.bounded.0, part_of x.gap y.gap made.0 made.1 h.gaps.1 h.nums.0 h.nums.1)
      | inr k ↦ rw k.0 (h.bounded.1, part_of y.gap x.gap (omega (arith, made.0)) (omega (arith, made.1)) h.gaps.0 h.nums.1 h.nums.0)
    ] in
    let nearest = λ (u v : ℤ) (v_up : pos 0 <ℤ v) (most : v ≤ℤ pos max). is.1 u v v_up (inl (h.dens.1, omega ints)) in
    record {
      nearest = record {
        positive = is.0.positive;
        bounded = omega (ints, chosen.0);
        nearest = λ u v up most. (nearest u v up most).0;
        tie = λ u v up most. (nearest u v up most).1;
      };
      reduced = is.0;
      part = chosen.1;
    }

-- with the integer added, it is the nearest fraction, and it is reduced
module _ {m bottom w : ℤ} {n d max : ℕ} {z : Neighbour} (split : IsSplit m bottom w n d) (h : IsLimited n d max z) where
  pub nearest_with_whole : IsNearestWithin m bottom (pos max) (w *ℤ pos z.den +ℤ pos z.num) (pos z.den)
  nearest_with_whole = rw (← split.den) (shifted w m split.equation h.nearest)

  pub reduced_with_whole : IsReduced (w *ℤ pos z.den +ℤ pos z.num) (pos z.den)
  reduced_with_whole = remainder_reduced (neg_ℤ w) h.reduced (simp neg_mul (omega linear))
