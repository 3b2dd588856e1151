-- Inequalities between products of integers.
use Rattle.integer_core.proofs.Common.{◌≡◌, ◌≤ℤ◌, ◌<ℤ◌, ◌+ℤ◌, ◌-ℤ◌, ◌*ℤ◌, ℤ, pos, arith, expand, linear, products}

-- products of numbers that are not negative
pub product_from_zero : (k d : ℤ) → pos 0 ≤ℤ k → pos 0 ≤ℤ d → pos 0 ≤ℤ (k *ℤ d)
product_from_zero k d up from_zero = grind (arith, products)

-- a multiple above another is at least the divisor above it
pub multiples_apart : (x y d : ℤ) → pos 0 <ℤ d → x <ℤ y → (x *ℤ d +ℤ d) ≤ℤ (y *ℤ d)
multiples_apart x y d up above =
    omega (arith, products, simp expand at (product_from_zero (y -ℤ x -ℤ pos 1) d (omega (arith, linear)) (omega (arith, linear))))

pub product_at_most : {u v x y : ℤ} → pos 0 ≤ℤ u → u ≤ℤ x → pos 0 ≤ℤ v → v ≤ℤ y → (u *ℤ v) ≤ℤ (x *ℤ y)
product_at_most {u} {v} {x} {y} u_up u_at_most v_up v_at_most =
    let first = simp expand at (product_from_zero (x -ℤ u) y (omega (arith, linear)) (omega (arith, linear))) in
    let second = simp expand at (product_from_zero u (y -ℤ v) u_up (omega (arith, linear))) in
    omega (arith, products)

-- a factor of a positive number is positive if the other factor is
pub factor_positive : {g s m : ℤ} → pos 0 <ℤ m → pos 0 <ℤ g → m ≡ g *ℤ s → pos 0 <ℤ s
factor_positive up g_up e = grind (arith, products)
