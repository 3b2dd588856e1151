-- The nearer of two neighbours is the nearest of all fractions that do not lie between the two.
use Rattle.ratio64.proofs.Common.{◌≡◌, ◌⊎◌, ◌<◌, ◌≤◌, ◌+◌, ◌*◌, ◌<ℤ◌, ◌≤ℤ◌, ◌+ℤ◌, ◌-ℤ◌, ◌*ℤ◌, ℤ, ℕ, pos, neg_ℤ, suc, unsigned_abs, zero, arith, ap, ◌∙◌, inl, inr, by_lt_z, le-mul_of_pos_right, le_of_mul-le-mul_left, le_of_mul-le-mul_right, mul-le-mul_left, mul-pos, subst, mul-lt, ints, Divides_sum, cancel, comm, divisor_at_most, expand, linear, from_not_less, multiples_apart, products, sizes, Divides, IsReduced, gap, IsNearer, denominator_divides, positive_is_nonzero, Neighbour, neg_mul}
use Rattle.ratio64.proofs.ReducedParts.{coprime_by}

-- ---- fractions that are equal to a reduced one

-- a fraction that is equal to a reduced one has at least its denominator, and over the same denominator the same numerator
pub equal_least : {a b u v : ℤ} → IsReduced a b → pos 0 <ℤ v → a *ℤ v ≡ u *ℤ b → (b ≤ℤ v) × (v ≡ b → a ≡ u)
equal_least {a} {b} {u} x up e = (
  divisor_at_most up (denominator_divides x (record { cross = e })),
  λ same. cancel b a u (positive_is_nonzero x.positive) (comm b a ∙ rw same at e ∙ comm u b),
)

-- a reduced fraction has no gap from itself, and a fraction that has none is equal to it
pub itself_is_nearest : {n d u v : ℤ} → IsReduced n d → pos 0 <ℤ v → (gap n d n d * unsigned_abs v ≤ gap n d u v * unsigned_abs d)
    × (gap n d n d * unsigned_abs v ≡ gap n d u v * unsigned_abs d → (d ≤ℤ v) × (v ≡ d → n ≡ u))
itself_is_nearest {n} {d} {u} {v} x up =
    let own : gap n d n d ≡ 0 = omega sizes in
    let apart = le-mul_of_pos_right {m = unsigned_abs d} (gap n d u v) (omega (sizes, x.positive)) in
    rw own (omega arith, λ same. equal_least {u = u} x up (omega sizes))

-- numbers of which a combination is 1
reduced_by : (x y a b : ℤ) → pos 0 <ℤ b → x *ℤ a +ℤ y *ℤ b ≡ pos 1 → IsReduced a b
reduced_by x y a b up one = record {
  positive = up;
  lowest = coprime_by (λ d left right. subst (λ (t : ℤ). Divides d t) one (Divides_sum x y left right));
}

-- ---- a fraction that does not lie between two neighbours

-- The fraction l is below n/d and u is above it, at their gaps. The cross products of the two differ by 1.
pub record AreAround (n d : ℕ) (l u : Neighbour) : Type 0 where
  pub from_below : n * l.den ≡ l.num * d + l.gap
  pub from_above : u.num * d ≡ n * u.den + u.gap
  pub adjacent : u.num * l.den ≡ l.num * u.den + 1
  pub ups : (0 < d) × (0 < l.den) × (0 < l.gap) × (0 < u.gap)

-- The denominator or the numerator of a/v is too small for a fraction between l and u.
abbrev pub IsOutside : Neighbour → Neighbour → ℤ → ℤ → Type 0
IsOutside l u a v = ((0 < u.den) × (v <ℤ pos (l.den + u.den))) ⊎ ((0 < l.num) × (0 < u.num) × (a <ℤ pos (l.num + u.num)))

-- x lies between n/d and a/v, or is a/v, so that the gaps add up.
abbrev pub IsPast : ℕ → ℕ → Neighbour → ℤ → ℤ → Type 0
IsPast n d x a v = gap (pos n) (pos d) a v * x.den ≡ x.gap * unsigned_abs v + d * gap (pos x.num) (pos x.den) a v

-- numbers of which such a combination is small are not both negative
not_both : {i j k : ℤ} (b e : ℕ) → 0 < b → 0 < e → i *ℤ pos e +ℤ j *ℤ pos b ≡ neg_ℤ k → k <ℤ pos (b + e) → i <ℤ pos 0 → pos 0 ≤ℤ j
not_both {i} {j} b e b_up e_up both small under = from_not_less (λ low.
    let i_less = multiples_apart i (pos 0) (pos e) (omega ints) under in
    let j_less = multiples_apart j (pos 0) (pos b) (omega ints) low in
    omega (ints, products, both))

past_size : (z v i : ℤ) (d b g : ℕ) → z *ℤ pos b ≡ pos g *ℤ v +ℤ pos d *ℤ i → pos 0 <ℤ v → pos 0 ≤ℤ i
    → unsigned_abs z * b ≡ g * unsigned_abs v + d * unsigned_abs i
past_size z v i d b g e v_up up = grind arith

turned_size : (x y : ℤ) → unsigned_abs (x -ℤ y) ≡ unsigned_abs (y -ℤ x)
turned_size x y = omega sizes

-- a fraction that does not lie between the two is past one of them
past_one : {n d : ℕ} {l u : Neighbour} {a v : ℤ} → AreAround n d l u → pos 0 <ℤ v → IsOutside l u a v → IsPast n d l a v ⊎ IsPast n d u a v
past_one {n} {d} {l} {u} {a} {v} h v_up outside =
    let below = simp expand at (ap (λ (t : ℕ). pos t *ℤ v) h.from_below) in
    let above = simp expand at (ap (λ (t : ℕ). pos t *ℤ v) h.from_above) in
    let dens = simp expand at (ap (λ (t : ℕ). pos t *ℤ v) h.adjacent) in
    let nums = simp expand at (ap (λ (t : ℕ). pos t *ℤ a) h.adjacent) in
    let i = pos l.num *ℤ v -ℤ a *ℤ pos l.den in
    let j = a *ℤ pos u.den -ℤ pos u.num *ℤ v in
    by_lt_z i (pos 0)
    (λ under.
    let up : pos 0 ≤ℤ j = elim outside [
      | inl k ↦ not_both {i = i} {k = v} l.den u.den h.ups.1 k.0 (simp expand (omega products)) k.1 under
      | inr k ↦ not_both {i = i} {k = a} l.num u.num k.0 k.1 (simp expand (omega products)) k.2 under
    ] in
    let far = past_size (a *ℤ pos d -ℤ pos n *ℤ v) v j d u.den u.gap (simp expand (omega products)) v_up up in
    inr (rw (turned_size (pos n *ℤ v) (a *ℤ pos d), turned_size (pos u.num *ℤ v) (a *ℤ pos u.den)) far))
    (λ up. inl (past_size (pos n *ℤ v -ℤ a *ℤ pos d) v i d l.den l.gap (simp expand (omega products)) v_up up))

-- ---- the nearest

pub positive_by_product : (m n : ℕ) → 0 < m * n → 0 < n
positive_by_product m zero up = absurd (omega arith)
positive_by_product m (suc n) up = omega arith

-- past the farther of two, whose gaps are g/b and h/e, a fraction is as near as the nearer one only if it is equal to the farther one
past_farther : (p b e g h v d j : ℕ) → p * e ≡ h * v + d * j → g * e ≤ h * b → (0 < d) × (0 < b) × (0 < h) × (0 < v)
    → (g * v ≤ p * b) × (g * v ≡ p * b → (j ≡ 0) × (0 < e) × (g * e ≡ h * b))
past_farther p b e g h v d j far near ups =
    let some = mul-lt 0 0 h v ups.2 ups.3 in
    let up = positive_by_product p e (omega arith) in
    let times = ap (λ (t : ℕ). b * t) far in
    let more = mul-le-mul_left v near in (
      le_of_mul-le-mul_left {m = g * v} {n = p * b} {k = e} (omega arith) up,
      λ tie.
          let ties = ap (λ (t : ℕ). e * t) tie in
          let apart = le-mul_of_pos_right {m = d * b} j (mul-pos ups.0 ups.1) in
          let level : h * b ≤ g * e = le_of_mul-le-mul_left {m = h * b} {n = g * e} {k = v} (omega arith) ups.3 in
          (omega arith, up, omega arith),
    )

-- z is as near to n/d as a/v. If they are equally near, its denominator is at most that of a/v, and over the same denominator its numerator is.
abbrev pub IsAsNear : ℕ → ℕ → Neighbour → ℤ → ℤ → Type 0
IsAsNear n d z a v = (gap (pos n) (pos d) (pos z.num) (pos z.den) * unsigned_abs v ≤ gap (pos n) (pos d) a v * z.den)
    × (gap (pos n) (pos d) (pos z.num) (pos z.den) * unsigned_abs v ≡ gap (pos n) (pos d) a v * z.den
    → (pos z.den ≤ℤ v) × (v ≡ pos z.den → pos z.num ≤ℤ a))

-- x, at its gap from n/d, is reduced, and nearer to n/d than y. If the two are equally near, x has the smaller denominator, and over the same
-- denominator the smaller numerator.
pub record IsFirst (n d : ℕ) (x y : Neighbour) : Type 0 where
  pub own : gap (pos n) (pos d) (pos x.num) (pos x.den) ≡ x.gap
  pub ups : (0 < d) × (0 < y.gap)
  pub reduced : IsReduced (pos x.num) (pos x.den)
  pub other : 0 < y.den → IsReduced (pos y.num) (pos y.den)
  pub near : x.gap * y.den ≤ y.gap * x.den
  pub smaller : x.gap * y.den ≡ y.gap * x.den → (x.den ≤ y.den) × (y.den ≡ x.den → x.num ≤ y.num)

module _ {n d : ℕ} {x y : Neighbour} (h : IsFirst n d x y) (a : ℤ) {v : ℤ} (up : pos 0 <ℤ v) where
  -- a fraction behind the nearer one is not nearer, and equally near only if it is equal to it
  near_behind_own : IsPast n d x a v → IsAsNear n d x a v
  near_behind_own past =
      let apart = le-mul_of_pos_right {m = d} (gap (pos x.num) (pos x.den) a v) h.ups.0 in
      rw h.own (
        omega arith,
        λ tie.
            let least = equal_least {u = a} h.reduced up (omega sizes) in
            (least.0, λ same. omega (linear, least.1 same)),
      )

  -- a fraction behind the farther one is not nearer, and equally near only if it is equal to the farther one
  near_behind_other : IsPast n d y a v → IsAsNear n d x a v
  near_behind_other past =
      let x_up : 0 < x.den = omega (ints, h.reduced.positive) in
      let v_up : 0 < unsigned_abs v = omega sizes in
      let ups : (0 < d) × (0 < x.den) × (0 < y.gap) × (0 < unsigned_abs v) = (h.ups.0, x_up, h.ups.1, v_up) in
      let farther = past_farther (gap (pos n) (pos d) a v) x.den y.den x.gap y.gap (unsigned_abs v) d _ past h.near ups in
      rw h.own (
        farther.0,
        λ tie.
            let level = farther.1 tie in
            let least = equal_least {u = a} (h.other level.1) up (omega (sizes, level.0)) in
            let less = h.smaller level.2 in
            let even : v ≡ pos x.den → y.den ≡ x.den = λ same. omega (ints, least.0, less.0) in
            let numerators : v ≡ pos x.den → pos x.num ≤ℤ a = λ same.
            let level_dens : v ≡ pos y.den = omega (ints, even same) in
            omega (ints, least.1 level_dens, less.1 (even same)) in
            (omega (ints, least.0), numerators),
      )

  near_behind : IsPast n d x a v ⊎ IsPast n d y a v → IsAsNear n d x a v
  near_behind past = elim past [ inl own ↦ near_behind_own own | inr other ↦ near_behind_other other ]

-- the nearer one is reduced, and no fraction that does not lie between the two is nearer
pub nearer_is_nearest : {n d : ℕ} {l u z : Neighbour} → AreAround n d l u → IsNearer l u z
    → IsReduced (pos z.num) (pos z.den) × ((a v : ℤ) → pos 0 <ℤ v → IsOutside l u a v → IsAsNear n d z a v)
nearer_is_nearest {n} {d} {l} {u} h near =
    let left = neg_mul (pos u.den) (pos l.num) in
    let right = neg_mul (pos l.num) (pos u.den) in
    let lower = reduced_by (neg_ℤ (pos u.den)) (pos u.num) (pos l.num) (pos l.den) (omega (ints, h.ups)) (omega products) in
    let upper = λ (up : 0 < u.den).
    reduced_by (pos l.den) (neg_ℤ (pos l.num)) (pos u.num) (pos u.den) (omega ints) (omega products) in
    elim near.is [
      | inl k ↦
          let own : gap (pos n) (pos d) (pos l.num) (pos l.den) ≡ l.gap = omega (sizes, h.from_below) in
          let smaller : u.den ≡ l.den → l.num ≤ u.num = λ same.
          le_of_mul-le-mul_right {m = l.num} {n = u.num} {k = l.den} (omega (arith, rw same at h.adjacent)) h.ups.1 in
          let first : IsFirst n d l u = record {
            own = own;
            ups = (h.ups.0, h.ups.3);
            reduced = lower;
            other = upper;
            near = k.1;
            smaller = λ tie. (k.2 tie, smaller);
          } in
          rw k.0 (lower, λ a v up outside. near_behind first a up (past_one h up outside))
      | inr k ↦
          let own : gap (pos n) (pos d) (pos u.num) (pos u.den) ≡ u.gap = omega (sizes, h.from_above) in
          let some = mul-pos h.ups.3 h.ups.1 in
          let reduced = upper (positive_by_product l.gap u.den (omega (arith, k.1))) in
          let larger : u.gap * l.den ≡ l.gap * u.den → (u.den ≤ l.den) × (l.den ≡ u.den → u.num ≤ l.num) = λ tie.
          let strict = k.2 tie in (omega arith, λ same. absurd (omega arith)) in
          let first : IsFirst n d u l = record {
            own = own;
            ups = (h.ups.0, h.ups.2);
            reduced = reduced;
            other = λ _. lower;
            near = k.1;
            smaller = larger;
          } in
          rw k.0 (
            reduced,
            λ a v up outside.
                let past : IsPast n d u a v ⊎ IsPast n d l a v = elim (past_one h up outside) [ inl far ↦ inr far | inr far ↦ inl far ] in
                near_behind first a up past,
          )
    ]
