-- Roots of integers by the roots of their magnitudes.
use Rattle.integer_roots.proofs.Common.{◌≡◌, ◌≢◌, ◌<ℤ◌, ◌≤ℤ◌, ◌+◌, ◌^◌, ◌<◌, ◌≤◌, ℤ, pos, negsuc, neg_ℤ, unsigned_abs, ℕ, zero, suc, arith, refl, mul-le-mul_right, ints, by_lt_z, pow-le-pow_right, IsRange, linear, sizes, IsFloorRoot, IsRoot}
use Rattle.integer_roots.proofs.OnlyAnswers.{root_is_only_one}
use Rattle.integer_roots.proofs.Powers.{power_one, power_two, floor_root}

first_floor_root : (a : ℕ) → IsFloorRoot (pos a) 1 (pos a)
first_floor_root a = floor_root (omega (arith, power_one a)) (omega (arith, power_one (a + 1)))

-- the root of degree 1 of a number is the number
pub first_root : (x : ℤ) → IsRoot x 1 x
first_root (pos a) = record { from_zero = λ h. first_floor_root a; below_zero = λ h. absurd (omega (arith, ints)) }
first_root (negsuc a) = record { from_zero = λ h. absurd (omega (arith, ints)); below_zero = λ h. (refl, first_floor_root (suc a)) }

-- a number fits that is at most 1, or below the magnitude of one that fits
below_fits : {fits : ℤ → Type 0} {low high x : ℤ} {m : ℕ} → IsRange fits low high → fits x → (1 < m → m < unsigned_abs x) → fits (pos m)
below_fits {x = x} range x_fits small =
    (range.between _).1 (grind (arith, sizes, range.low_end, range.positive, (range.between x).0 x_fits))

-- the root of a magnitude fits, from degree 2 on
pub root_fits : {fits : ℤ → Type 0} {low high x z r : ℤ} {n : ℕ} → IsRange fits low high → fits x → 2 ≤ n
    → z ≡ pos (unsigned_abs x) → IsFloorRoot z n r → fits r
root_fits {r = negsuc m} range x_fits degree is floor = absurd (omega (arith, ints, floor.from_zero))
root_fits {x = x} {r = pos m} {n = n} range x_fits degree is floor =
    let le : m ^ n ≤ unsigned_abs x = omega (arith, ints, floor.power_le) in
    below_fits range x_fits
    (λ h. omega (arith, power_two m, mul-le-mul_right m h, pow-le-pow_right {n = m} (omega arith) {i = 2} {j = n} degree))

-- and so does its negation, if the type has a negative number
pub negation_fits : {fits : ℤ → Type 0} {low high x m : ℤ} → IsRange fits low high → fits x → x <ℤ pos 0 → pos 0 ≤ℤ m → fits m
    → fits (neg_ℤ m)
negation_fits {x = x} {m = m} range x_fits below up m_fits = grind (arith, linear)

-- each root of a number of the type is a number of the type
pub root_in_range : {fits : ℤ → Type 0} {low high x : ℤ} {n : ℕ} {r : ℤ} → IsRange fits low high → fits x → n ≢ 0
    → IsRoot x n r → fits r
root_in_range {n = zero} range x_fits degree root = absurd (degree refl)
root_in_range {x = x} {n = suc zero} {r = r} range x_fits degree root = rw (root_is_only_one (first_root x) r root) x_fits
root_in_range {x = x} {n = suc (suc k)} {r = r} range x_fits degree root = by_lt_z x (pos 0)
    (λ below.
    let floor = (root.below_zero below).1 in
    let same : neg_ℤ (neg_ℤ r) ≡ r = omega (arith, linear) in
    rw same at (negation_fits range x_fits below floor.from_zero (root_fits range x_fits (omega arith) (omega (arith, sizes)) floor)))
    (λ up. root_fits range x_fits (omega arith) (omega (arith, sizes)) (root.from_zero up))
