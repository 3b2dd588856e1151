-- Equal fractions have the same nearest fraction with a small denominator, and with two small parts.
use Rattle.ratio64.proofs.Common.{◌≡◌, ◌<◌, ◌≤◌, ◌*◌, ◌<ℤ◌, ◌-ℤ◌, ◌*ℤ◌, ℕ, ℤ, pos, unsigned_abs, ap, arith, mul-le-mul_left, ◌∙◌, eq_of_mul-eq-mul_left, ints, unsigned_abs-mul, expand, factor_positive, IsExact, AreNearestParts, IsNearestWithin, gap}
use Rattle.ratio64.proofs.FittingParts.{common_factor}
use Rattle.ratio64.specs.Laws as law

-- the gap of x/y from n/d, times the denominator v
abbrev scaled_gap : ℤ → ℤ → ℤ → ℤ → ℤ → ℕ
scaled_gap n d x y v = gap n d x y * unsigned_abs v

-- Of two fractions, x/y is nearer to a/b if it is nearer to n/d, and as near as u/v to n/d if it is so to a/b.
pub record GapsAgree (a b n d x y u v : ℤ) : Type 0 where
  pub at_most : scaled_gap n d x y v ≤ scaled_gap n d u v y → scaled_gap a b x y v ≤ scaled_gap a b u v y
  pub same : scaled_gap a b x y v ≡ scaled_gap a b u v y → scaled_gap n d x y v ≡ scaled_gap n d u v y

-- n/d is the exact result of a/b, whose parts are s times its parts
module _ {a b n d : ℤ} (b_up : pos 0 <ℤ b) (exact : IsExact a b n d) where
  abbrev scale : ℤ
  scale = (common_factor exact).0

  scale_up : 0 < unsigned_abs scale
  scale_up =
      let up : pos 0 <ℤ scale = factor_positive b_up exact.reduced.positive (common_factor exact).2 in
      omega ints

  -- a gap from a/b is s times that from n/d
  gap_grown : (u v : ℤ) → gap a b u v ≡ gap n d u v * unsigned_abs scale
  gap_grown u v =
      let (s, num, den) = common_factor exact in
      let parts : gap a b u v ≡ gap (n *ℤ s) (d *ℤ s) u v = cc in
      let difference : n *ℤ s *ℤ v -ℤ u *ℤ (d *ℤ s) ≡ (n *ℤ v -ℤ u *ℤ d) *ℤ s = simp expand in
      parts ∙ ap unsigned_abs difference ∙ unsigned_abs-mul (n *ℤ v -ℤ u *ℤ d) s

  gap_scaled : (x y v : ℤ) → scaled_gap a b x y v ≡ unsigned_abs scale * scaled_gap n d x y v
  gap_scaled x y v = rw (gap_grown x y) (omega arith)

  gaps_agree : (x y u v : ℤ) → GapsAgree a b n d x y u v
  gaps_agree x y u v = record {
    at_most = λ most. rw (gap_scaled x y v, gap_scaled u v y) (mul-le-mul_left (unsigned_abs scale) most);
    same = λ e. eq_of_mul-eq-mul_left (unsigned_abs scale) scale_up _ _ (rw (gap_scaled x y v, gap_scaled u v y) at e);
  }

-- What is nearest to the exact result of a fraction is nearest to the fraction.
pub nearest_of_equal : {a b n d max x y : ℤ} → pos 0 <ℤ b → IsExact a b n d → IsNearestWithin n d max x y → IsNearestWithin a b max x y
nearest_of_equal {x = x} {y = y} b_up exact h = record {
  positive = h.positive;
  bounded = h.bounded;
  nearest = λ u v v_up within. (gaps_agree b_up exact x y u v).at_most (h.nearest u v v_up within);
  tie = λ u v v_up within e. h.tie u v v_up within ((gaps_agree b_up exact x y u v).same e);
}

-- So are the nearest parts.
pub nearest_parts_of_equal : {a b n d max x y : ℤ} → pos 0 <ℤ b → IsExact a b n d → AreNearestParts n d max x y → AreNearestParts a b max x y
nearest_parts_of_equal {x = x} {y = y} b_up exact h = record {
  positive = h.positive;
  bounded = h.bounded;
  nearest = λ u v v_up within u_within. (gaps_agree b_up exact x y u v).at_most (h.nearest u v v_up within u_within);
  tie = λ u v v_up within u_within e. h.tie u v v_up within u_within ((gaps_agree b_up exact x y u v).same e);
}

pub nearest_to_exact_result : law.NearestToExactResult
nearest_to_exact_result = λ a b num den max x y. nearest_of_equal
