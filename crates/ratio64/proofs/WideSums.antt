-- Products of parts, and their sums and differences, in `i128`.
use Rattle.ratio64.proofs.Common.{◌≡◌, ◌<◌, ◌≤◌, ◌-◌, ◌^◌, ◌<ℤ◌, ◌+ℤ◌, ◌-ℤ◌, ◌*ℤ◌, ℤ, pos, negsuc, unsigned_abs, FitsSigned, w64, w128, arith, refl, to_z, of_z, mul-le-mul, to_z-of_z, fits_signed_from_abs, unsigned_abs-mul, sizes}

pub sum_below : (x y : ℤ) → unsigned_abs x < 2 ^ 126 → unsigned_abs y < 2 ^ 126 → unsigned_abs (x +ℤ y) < 2 ^ 127
sum_below x y h k = omega sizes

pub difference_below : (x y : ℤ) → unsigned_abs x < 2 ^ 126 → unsigned_abs y < 2 ^ 126 → unsigned_abs (x -ℤ y) < 2 ^ 127
difference_below x y h k = omega sizes

-- a number below 2^127 is read back from its bits
pub read : (x : ℤ) → unsigned_abs x < 2 ^ 127 → to_z w128 (of_z w128 x) ≡ x
read x h = to_z-of_z w128 x (fits_signed_from_abs w128 x h)

-- for `grind`: sums, differences and sizes of numbers that are read back from their bits
pub ruleset numbers_read = (sizes, to_z-of_z)

-- for `grind`: numbers of 128 bits by their size
pub ruleset wide_by_size = (numbers_read, fits_signed_from_abs)

pub read_product : (x : ℤ) → unsigned_abs x < 2 ^ 126 → to_z w128 (of_z w128 x) ≡ x
read_product x h = read x (omega arith)

-- ---- the product of two parts

pub part_size : (a : ℤ) → FitsSigned w64 a → unsigned_abs a ≤ 2 ^ 63
part_size (pos a) fits = let low = fits.sfits in omega arith
part_size (negsuc a) fits = let low = fits.sfits in omega arith

pub positive_size : (z : ℤ) → FitsSigned w64 z → pos 0 <ℤ z → (pos (unsigned_abs z) ≡ z) × (unsigned_abs z < 2 ^ 63)
positive_size (pos n) fits up = let low = fits.sfits in (refl, omega arith)
positive_size (negsuc n) fits up = absurd up.lt

pub product_below : (a b : ℤ) → FitsSigned w64 a → FitsSigned w64 b → unsigned_abs (a *ℤ b) < 2 ^ 127
product_below a b a_fits b_fits = rw (unsigned_abs-mul a b) (omega (arith, mul-le-mul (part_size a a_fits) (part_size b b_fits)))

pub product_by_positive : (a b : ℤ) → FitsSigned w64 a → FitsSigned w64 b → pos 0 <ℤ b → unsigned_abs (a *ℤ b) < 2 ^ 126
product_by_positive a b a_fits b_fits up = grind (arith, positive_size, unsigned_abs-mul)

-- the product of two parts, as `i128` computes it
pub wide_product : {a b x y : ℤ} → FitsSigned w64 a → FitsSigned w64 b → x ≡ to_z w64 (of_z w64 a) → y ≡ to_z w64 (of_z w64 b)
    → to_z w128 (of_z w128 (to_z w128 (of_z w128 x) *ℤ to_z w128 (of_z w128 y))) ≡ a *ℤ b
wide_product {a} {b} a_fits b_fits e f =
    let left = part_size a a_fits in
    let right = part_size b b_fits in
    rw (e, f, to_z-of_z w64 a a_fits, to_z-of_z w64 b b_fits, read a (omega arith), read b (omega arith)) (read _ (product_below a b a_fits b_fits))
