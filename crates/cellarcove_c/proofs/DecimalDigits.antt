-- The digits of decimal numbers.
use Rattle.cellarcove_c.proofs.Common.{◌≡◌, ◌↔◌, ◌<◌, ◌≤◌, ◌*◌, ◌/◌, ◌%◌, ◌^◌, ◌<ℤ◌, ◌*ℤ◌, ℕ, ℤ, Bool, pos, unsigned_abs, FitsSigned, IsTrue, w64, Fits, arith, div-lt_iff_lt-mul, mul-le-mul_right, unsigned_abs-mul, ten_grows, ten_up, quotient_size, rounded_even_division, part_size, IsRoundedEven, HasDigits, IsInDigits}

-- the integer part is at most the magnitude of the numerator
pub whole_below : {num d units : ℤ} (places : ℕ) → FitsSigned w64 num → pos 0 <ℤ d
    → IsRoundedEven (num *ℤ pos (10 ^ places)) d units → unsigned_abs units / 10 ^ places < 2 ^ 64
whole_below {num} {d} {units} places fits up h =
    let some = ten_up places in
    let product : unsigned_abs (num *ℤ pos (10 ^ places)) ≡ unsigned_abs num * 10 ^ places = unsigned_abs-mul num (pos (10 ^ places)) in
    let size = quotient_size up (rounded_even_division up h) in
    (div-lt_iff_lt-mul some).1 (omega (arith, size, product, mul-le-mul_right (10 ^ places) (part_size num fits), some))

-- a number is its quotient and its remainder by a power of ten
digits_of : {units : ℤ} {negative : Bool} (places : ℕ) → IsTrue negative ↔ (units <ℤ pos 0)
    → HasDigits units places negative (unsigned_abs units / 10 ^ places) (unsigned_abs units % 10 ^ places)
digits_of {units} places sign = grind (arith, ten_up)

pub digits_made : {n d units : ℤ} {negative : Bool} {p places whole part : ℕ} → p ≡ places → IsRoundedEven (n *ℤ pos (10 ^ places)) d units
    → IsTrue negative ↔ (units <ℤ pos 0) → whole ≡ unsigned_abs units / 10 ^ p
    → part ≡ unsigned_abs units % 10 ^ p → IsInDigits n d places negative whole part
digits_made {units = units} {places = places} same rounded sign whole part =
    record { units = units; rounded = rounded; digits = rw (rw same at whole, rw same at part) (digits_of places sign) }

-- the digits after the point fit
pub part_fits : (n places : ℕ) → places ≤ 18 → Fits w64 (n % 10 ^ places)
part_fits n places few = grind (arith, ten_up, ten_grows)
