-- Floored quotients of products, by signs and magnitudes.
use Rattle.num_integer.proofs.Common.{◌≡◌, ◌<◌, ◌≤ℤ◌, ◌<ℤ◌, ◌*◌, ◌/◌, ◌%◌, ◌*ℤ◌, ℕ, ℤ, pos, neg_ℤ, not, Bool, true, false, arith, inl, from_not_less, ints, linear, products, sizes, IsDivision, IsFloored, IsRange, within_fits, signed, multiples_apart, product_at_most, product_from_zero}
use Rattle.std.proofs.Math.Bool.{beq}
use Rattle.integer_core.proofs.FlooredByPositive.{floored_by_range}
use Rattle.integer_core.proofs.NaturalDivision.{natural_division}

-- without a remainder, the quotient and the remainder of a number of either sign are floored
pub exact_floored : (negative : Bool) (m d : ℕ) → 0 < d → m % d ≡ 0 → IsFloored (signed negative m) (pos d) (signed negative (m / d)) (pos (m % d))
exact_floored false m d up none = natural_division m d up
exact_floored true m d up none = let h = (natural_division m d up).division.equation in floored_by_range (grind (arith, products, none, h)) (omega (arith, ints)) (omega (arith, ints, none))

-- a product, by signs and magnitudes
pub signed_product : (s t : Bool) (m n : ℕ) → signed s m *ℤ signed t n ≡ signed (not (beq s t)) (m * n)
signed_product true true m n = grind (arith, products)
signed_product true false m n = grind (arith, products)
signed_product false true m n = grind (arith, products)
signed_product false false m n = grind (arith, products)

-- the floored division of a number by signs and magnitudes, from that of its magnitude with the sign of the quotient by the magnitude of the divisor
pub division_by_magnitudes : (s u : Bool) (m e : ℕ) {q : ℤ} {r : ℕ}
    → IsFloored (signed (not (beq s u)) m) (pos e) q (pos r)
    → IsFloored (signed s m) (signed u e) q (signed u r)
division_by_magnitudes true false m e h = h
division_by_magnitudes false false m e h = h
division_by_magnitudes true true m e h = grind (arith, products, sizes)
division_by_magnitudes false true m e h = grind arith

-- a part of a number lies between 0 and the number, so it fits
pub part_fits : {fits : ℤ → Type 0} {low high a b d q r : ℤ} → IsRange fits low high → fits a → pos 0 ≤ℤ a
    → pos 0 ≤ℤ b → b ≤ℤ d → pos 0 <ℤ d → IsDivision (a *ℤ b) d q r → fits q
part_fits {a = a} {b = b} {d = d} {q = q} {r = r} range a_fits a_up b_up within up h =
    let rest : (neg_ℤ d <ℤ r) × (r <ℤ d) = omega (arith, sizes, h.small) in
    let product = product_from_zero a b a_up b_up in
    let most : (a *ℤ b) ≤ℤ (a *ℤ d) = product_at_most {u = a} {v = b} {x = a} {y = d} a_up (omega (arith, linear)) b_up within in
    let none : pos 0 *ℤ d ≡ pos 0 = omega (arith, products) in
    within_fits range a_fits (inl (
      from_not_less (λ below. omega (arith, linear, multiples_apart q (pos 0) d up below)),
      from_not_less (λ over. omega (arith, linear, multiples_apart a q d up over)),
    ))
