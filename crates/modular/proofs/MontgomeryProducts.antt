-- Montgomery products: the multiple of the modulus that is subtracted, and the numbers that Montgomery forms represent.
use Rattle.modular.proofs.Common.{◌≡◌, ◌+◌, ◌*◌, ◌/◌, ◌%◌, ◌^◌, ◌<◌, ◌-ℤ◌, ◌*ℤ◌, ℤ, ℕ, pos, neg_ℤ, arith, ap, refl, sym, ints, div-add-mod', expand, mul_neg, mul-one, AreCongruent, IsResidue, represented, comm, mul_comm}
use Rattle.modular.proofs.Congruences.{congruent_product, congruent_refl, congruent_sym, congruent_trans, congruent_by}
use Rattle.modular.proofs.BelowModulus.{natural_residue, congruent-rest, congruent_is_natural}
use Rattle.modular.proofs.MontgomeryInverses.{inverse_congruent}
use Rattle.modular.proofs.LinearCongruences.{solved_by, times_unit}

-- ---- the Montgomery product

-- t and the multiple of m that is subtracted have the same low digit
low_same : (m i t w : ℕ) → 0 < w → m * i % w ≡ 1 → t % w * i % w * m % w ≡ t % w
low_same m i t w up inverse =
    let quotient = congruent-rest (t % w * i) up (congruent_product (congruent-rest t up (congruent_refl (pos t))) (congruent_refl (pos i))) in
    let unit = times_unit (pos i) (pos m) (pos t) (inverse_congruent i m up (rw (mul_comm m i) at inverse)) in
    (congruent_is_natural {x = t % w * i % w * m} {y = t} up).0 (congruent_trans (congruent_product quotient (congruent_refl (pos m))) unit)

-- the difference of the high digits, and m more e times
montgomery_at : (h s r q w l e : ℕ) {m t n : ℕ} → t ≡ h * w + l → n ≡ s * w + l → n ≡ q * m
    → r + s ≡ h + e * m → AreCongruent (pos m) (pos t) (pos r *ℤ pos w)
montgomery_at h s r q w l e {m} {t} t_is n_is multiple is =
    let times : (r + s) * w ≡ (h + e * m) * w = ap (λ (z : ℕ). z * w) is in
    congruent_by (pos q -ℤ pos (e * w)) (simp expand (omega (arith, ints)))

-- the high digit of what is subtracted is less than the modulus
pub subtracted_at_most : (i t : ℕ) {m q p w : ℕ} → 0 < w → 0 < m → q ≡ t % w * i % w → p ≡ m → q * p / w < m
subtracted_at_most i t {m} {q} {p} {w} up m_up q_is p_is = grind arith

low_kept : (i t : ℕ) {m q p w : ℕ} → 0 < w → m * i % w ≡ 1 → q ≡ t % w * i % w → p ≡ m → q * p ≡ q * p / w * w + t % w
low_kept i t {m} {q} {p} {w} up inverse q_is p_is = grind (arith, low_same)

pub montgomery_product_is : (i r e : ℕ) {x y a b m q p w : ℕ} → 0 < w → m * i % w ≡ 1 → a ≡ x → b ≡ y
    → q ≡ a * b % w * i % w → p ≡ m → r + q * p / w ≡ a * b / w + e * m
    → AreCongruent (pos m) (pos (x * y)) (pos (r * w))
montgomery_product_is i r e {x} {y} {a} {b} {m} {q} {p} {w} up inverse a_is b_is q_is p_is is =
    rw (← a_is, ← b_is)
    (montgomery_at (a * b / w) (q * p / w) r q w (a * b % w) e (sym (div-add-mod' (a * b) w)) (low_kept i (a * b) up inverse q_is p_is) (ap (λ (z : ℕ). q * z) p_is) is)

-- ---- the number that a Montgomery form represents

-- minus the quotient of m * i by 2^64 is the inverse of 2^64 modulo m
word_unit : (m i w : ℕ) → m * i % w ≡ 1 → AreCongruent (pos m) (pos w *ℤ neg_ℤ (pos (m * i / w))) (pos 1)
word_unit m i w one =
    let all : m * i ≡ m * i / w * w + 1 = omega arith in
    congruent_by (neg_ℤ (pos i)) (simp mul_neg (omega (arith, ints)))

-- x times 2^64 represents x
represents : (m i x : ℕ) {z : ℤ} → m * i % 2 ^ 64 ≡ 1 → AreCongruent (pos m) (pos x *ℤ pos (2 ^ 64)) z
    → AreCongruent (pos m) (pos x) (z *ℤ neg_ℤ (pos (m * i / 2 ^ 64)))
represents m i x inverse h = solved_by (pos (2 ^ 64)) _ (word_unit m i (2 ^ 64) inverse) (rw (comm (pos x) (pos (2 ^ 64))) at h)

-- a Montgomery product represents the product
product_represents : (w s x y r : ℤ) {m : ℤ} → AreCongruent m (w *ℤ s) (pos 1)
    → AreCongruent m (x *ℤ y) (r *ℤ w) → AreCongruent m ((x *ℤ s) *ℤ (y *ℤ s)) (r *ℤ s)
product_represents w s x y r {m} unit h =
    let left : (x *ℤ s) *ℤ (y *ℤ s) ≡ (x *ℤ y) *ℤ (s *ℤ s) = simp expand refl in
    let right : (r *ℤ w) *ℤ (s *ℤ s) ≡ ((r *ℤ s) *ℤ w) *ℤ s = simp expand refl in
    rw left (congruent_trans (rw right at (congruent_product h (congruent_refl (s *ℤ s)))) (times_unit w s (r *ℤ s) unit))

-- the functions of a form
pub montgomery_forms_product : (m i x y r : ℕ) → m * i % 2 ^ 64 ≡ 1
    → AreCongruent (pos m) (pos x *ℤ pos y) (pos r *ℤ pos (2 ^ 64))
    → AreCongruent (pos m) (represented m i x *ℤ represented m i y) (represented m i r)
montgomery_forms_product m i x y r inverse h = product_represents (pos (2 ^ 64)) (neg_ℤ (pos (m * i / 2 ^ 64))) (pos x) (pos y) (pos r) (word_unit m i (2 ^ 64) inverse) h

pub montgomery_form : (m i x r a b : ℕ) → 0 < m → m * i % 2 ^ 64 ≡ 1 → a ≡ x → b ≡ m → r ≡ a * 2 ^ 64 % b
    → AreCongruent (pos m) (pos x) (represented m i r)
montgomery_form m i x r a b up inverse a_is b_is is = represents m i x {z = pos r} inverse (rw (is, a_is, b_is) (natural_residue (x * 2 ^ 64) up).congruent)

pub one_form : (m i n : ℕ) → 0 < m → m * i % 2 ^ 64 ≡ 1 → n + m ≡ 2 ^ 64 → AreCongruent (pos m) (pos 1) (represented m i (n % m))
one_form m i n up inverse is =
    let near : AreCongruent (pos m) (pos (2 ^ 64)) (pos n) = congruent_by (pos 1) (omega (arith, ints)) in
    represents m i 1 inverse (congruent_trans near (natural_residue n up).congruent)

pub montgomery_residue : (m i x r : ℕ) → m * i % 2 ^ 64 ≡ 1 → r < m
    → AreCongruent (pos m) (pos x *ℤ pos 1) (pos r *ℤ pos (2 ^ 64))
    → IsResidue (pos m) (represented m i x) (pos r)
montgomery_residue m i x r inverse below h = record {
  below = record { from_zero = omega (arith, ints); below = omega (arith, ints) };
  congruent = congruent_sym (represents m i r inverse (congruent_sym (rw (mul-one (pos x)) at h)));
}
