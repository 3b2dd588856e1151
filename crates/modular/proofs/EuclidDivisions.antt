-- Euclid's loop with the magnitudes of the coefficients of a, and what its last division says.
use Rattle.modular.proofs.Common.{◌≡◌, ◌≢◌, ◌≤ℤ◌, ◌<ℤ◌, ◌+ℤ◌, ◌-ℤ◌, ◌*ℤ◌, ℤ, pos, neg_ℤ, Bool, false, not, arith, inl, refl, subst, IsTruncated, IsGreatestCommonDivisor, IsRange, Divides_refl, Divides_zero, expand, linear, product_from_zero, products, within_fits, AreCongruent, IsResidue, gcd-remainder, rest_is, signed, signed-not}
use Rattle.modular.proofs.Congruences.{congruent_difference, congruent_gcd, congruent_product, congruent_refl, congruent_sym, congruent_trans, congruent_by, at_most_product}

-- ---- the numbers of the loop

-- modulo m the current remainder is its coefficient times a, with the sign s, and the previous remainder likewise, with the opposite sign
pub record EuclidDivision (m a previous current previous_size size s : ℤ) : Type 0 where
  pub previous_from_zero : pos 0 ≤ℤ previous
  pub current_from_zero : pos 0 ≤ℤ current
  pub previous_size_from_zero : pos 0 ≤ℤ previous_size
  pub size_from_zero : pos 0 ≤ℤ size
  pub whole : size *ℤ previous +ℤ previous_size *ℤ current ≡ m
  pub gcd : (g : ℤ) → IsGreatestCommonDivisor previous current g → IsGreatestCommonDivisor a m g
  pub previous_is : AreCongruent m previous (neg_ℤ s *ℤ (previous_size *ℤ a))
  pub current_is : AreCongruent m current (s *ℤ (size *ℤ a))

pub first_division : {m a x none one : ℤ} → pos 0 <ℤ m → IsResidue m a x → none ≡ pos 0 → one ≡ pos 1
    → EuclidDivision m a m x none one (signed false 1)
first_division {m} {a} {x} {none} {one} up h none_is one_is = record {
  previous_from_zero = omega (arith, linear);
  current_from_zero = h.below.from_zero;
  previous_size_from_zero = omega (arith, linear);
  size_from_zero = omega (arith, linear);
  whole = rw (none_is, one_is) (omega (arith, products));
  gcd = λ g k. congruent_gcd h.congruent k;
  previous_is = rw none_is (congruent_by (pos 1) (omega (arith, products)));
  current_is = let same : a ≡ pos 1 *ℤ (one *ℤ a) = rw one_is (omega (arith, products)) in subst (AreCongruent m x) same (congruent_sym h.congruent);
}

-- ---- one division

-- a quotient of numbers that are not negative
quotient_from_zero : {n d q r : ℤ} → pos 0 ≤ℤ n → pos 0 ≤ℤ d → d ≢ pos 0 → IsTruncated n d q r → pos 0 ≤ℤ q
quotient_from_zero {n} {d} {q} {r} n_up d_up nonzero h = grind arith

pub positive_remainder : {c : ℤ} → pos 0 ≤ℤ c → c ≢ pos 0 → pos 0 <ℤ c
positive_remainder from_zero nonzero = omega (arith, linear)

module _ {m a p c u v q r s : ℤ} (h : EuclidDivision m a p c u v s) (nonzero : c ≢ pos 0) (division : IsTruncated p c q r) where
  remainder_from_zero : pos 0 ≤ℤ r
  remainder_from_zero = omega (arith, linear, division.sign, h.previous_from_zero)

  next_whole : (u +ℤ q *ℤ v) *ℤ c +ℤ v *ℤ r ≡ m
  next_whole = let whole = h.whole in rw (rest_is division.division) (simp expand (omega (arith, products)))

  product_up : pos 0 ≤ℤ (q *ℤ v)
  product_up = product_from_zero q v (quotient_from_zero h.previous_from_zero h.current_from_zero nonzero division) h.size_from_zero

  next_up : pos 0 ≤ℤ (u +ℤ q *ℤ v)
  next_up = omega (arith, linear, product_up, h.previous_size_from_zero)

  -- a coefficient is at most the modulus
  next_at_most : (u +ℤ q *ℤ v) ≤ℤ m
  next_at_most =
      let most = at_most_product (u +ℤ q *ℤ v) c next_up (omega (arith, linear, h.current_from_zero)) in
      omega (arith, linear, next_whole, product_from_zero v r h.size_from_zero remainder_from_zero)

  pub next_product_fits : {fits : ℤ → Type 0} {low high : ℤ} → IsRange fits low high → fits m → fits (q *ℤ v)
  next_product_fits range m_fits = within_fits range m_fits (inl (product_up, omega (arith, linear, next_at_most, h.previous_size_from_zero)))

  pub next_size_fits : {fits : ℤ → Type 0} {low high : ℤ} → IsRange fits low high → fits m → fits (u +ℤ q *ℤ v)
  next_size_fits range m_fits = within_fits range m_fits (inl (next_up, next_at_most))

next_is : (s a u v q : ℤ) {m p c : ℤ} → AreCongruent m p (neg_ℤ s *ℤ (u *ℤ a))
    → AreCongruent m c (s *ℤ (v *ℤ a)) → AreCongruent m (p -ℤ q *ℤ c) (neg_ℤ s *ℤ ((u +ℤ q *ℤ v) *ℤ a))
next_is s a u v q h k =
    let spread : neg_ℤ s *ℤ (u *ℤ a) -ℤ q *ℤ (s *ℤ (v *ℤ a)) ≡ neg_ℤ s *ℤ ((u +ℤ q *ℤ v) *ℤ a) = simp expand (omega (arith, linear)) in
    rw spread at (congruent_difference h (congruent_product (congruent_refl q) k))

pub next_division : {m a p c u v q r next : ℤ} (n : Bool) → EuclidDivision m a p c u v (signed n 1)
    → c ≢ pos 0 → IsTruncated p c q r → next ≡ u +ℤ q *ℤ v → EuclidDivision m a c r v next (signed (not n) 1)
next_division {a = a} {u = u} {v = v} {q = q} n h nonzero division is =
    let back : neg_ℤ (neg_ℤ (signed n 1)) ≡ signed n 1 = omega (arith, linear) in
    rw (is, signed-not n 1 refl) (record {
      previous_from_zero = h.current_from_zero;
      current_from_zero = remainder_from_zero h nonzero division;
      previous_size_from_zero = h.size_from_zero;
      size_from_zero = next_up h nonzero division;
      whole = next_whole h nonzero division;
      gcd = λ g k. h.gcd g (gcd-remainder division.division k);
      previous_is = rw back h.current_is;
      current_is = rw (rest_is division.division) (next_is (signed n 1) a u v q h.previous_is h.current_is);
    })

-- ---- the last division, whose remainder is 0

pub last_gcd : {m a p c u v s : ℤ} → EuclidDivision m a p c u v s → c ≡ pos 0 → IsGreatestCommonDivisor a m p
last_gcd {p = p} h none =
    h.gcd p (rw none (record { from_zero = h.previous_from_zero; divides_left = Divides_refl p; divides_right = Divides_zero p; greatest = λ d left right. left }))

-- a number that is the previous coefficient with its sign
pub last_coefficient : {m a p c u v x z s : ℤ} → EuclidDivision m a p c u v s → IsResidue m z x → z ≡ neg_ℤ s *ℤ u → AreCongruent m (a *ℤ x) p
last_coefficient {a = a} {u = u} {s = s} h at_z is =
    let order : a *ℤ (neg_ℤ s *ℤ u) ≡ neg_ℤ s *ℤ (u *ℤ a) = simp expand refl in
    congruent_trans (congruent_product (congruent_refl a) (congruent_sym at_z.congruent)) (rw (is, order) (congruent_sym h.previous_is))
