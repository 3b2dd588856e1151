-- A cube root found digit by digit: what is known after some digits.
use Rattle.integer_roots.proofs.Common.{◌≡◌, ◌+◌, ◌-◌, ◌*◌, ◌/◌, ◌%◌, ◌^◌, ◌<◌, ◌≤◌, pos, ℕ, ap, arith, mul-le-mul, mul-le-mul_left, le-div_iff_mul-le, div-lt_iff_lt-mul, pow_mono, pow-add, IsFloorRoot}
use Rattle.integer_roots.proofs.Powers.{power_three, base_below}

-- the cube root of a has the digits of front, and more below them, at places below that of this weight; rest is what the cube
-- of front leaves of a
pub record IsCubeFront (a rest square front weight : ℕ) : Type 0 where
  pub whole : rest + front * front * front * weight ≡ a
  pub near : rest < (3 * (front * front + front) + 1) * weight
  pub square_is : square ≡ front * front
  pub fits : a < 2 ^ 32
  pub square_below : square < 2 ^ 22
  pub front_below : front < 2 ^ 11

-- the square and the front are small
cube_front : {a rest square front weight : ℕ} → 0 < weight → rest + front * front * front * weight ≡ a
    → rest < (3 * (front * front + front) + 1) * weight → square ≡ front * front → a < 2 ^ 32 → IsCubeFront a rest square front weight
cube_front {square = square} {front = front} positive whole near square_is fits =
    let cube = mul-le-mul_left (front * front * front) positive in
    let small = base_below front (2 ^ 11) 3 (omega (arith, whole, fits, cube, power_three front)) in
    let below : front ≤ 2047 = omega arith in
    record { whole = whole; near = near; square_is = square_is; fits = fits; square_below = omega (arith, square_is, mul-le-mul below below); front_below = small }

-- what the next digit 1 takes of the rest, with the square and the front moved up by a place
abbrev pub cube_step : ℕ → ℕ → ℕ
cube_step square front = 3 * (square * 4 + front * 2) + 1

pub front_at_first : (a bits : ℕ) → bits ≤ 32 → a < 2 ^ bits → IsCubeFront a a 0 0 (2 ^ (3 * (bits / 3 + 1)))
front_at_first a bits small below = grind (arith, pow_mono)

-- the place of the next digit
pub next_digit : {a rest square front digits : ℕ} → 0 < digits → IsCubeFront a rest square front (2 ^ (3 * digits))
    → IsCubeFront a rest square front (8 * 2 ^ (3 * (digits - 1)))
next_digit {digits = digits} positive v =
    let e : 3 * digits ≡ 3 + 3 * (digits - 1) = omega arith in
    rw (← pow-add 2 3 (3 * (digits - 1)), ← e) v

-- the digit 0
pub front_stays : {a rest square front weight : ℕ} → 0 < weight → IsCubeFront a rest square front (8 * weight)
    → rest / weight < cube_step square front → IsCubeFront a rest (square * 4) (front * 2) weight
front_stays {weight = weight} positive v below =
    let squares = ap (λ (n : ℕ). n * weight) v.square_is in
    let short = (div-lt_iff_lt-mul positive).0 below in
    cube_front positive (omega (arith, v.whole)) (omega arith) (omega (arith, v.square_is)) v.fits

-- the digit 1
pub front_grows : {a rest square front weight : ℕ} → 0 < weight → IsCubeFront a rest square front (8 * weight) → cube_step square front ≤ rest / weight
    → IsCubeFront a (rest - cube_step square front * weight) (square * 4 + (2 * (front * 2) + 1)) (front * 2 + 1) weight
front_grows {rest = rest} {square = square} {front = front} {weight = weight} positive v above =
    let squares = ap (λ (n : ℕ). n * weight) v.square_is in
    let enough = (le-div_iff_mul-le positive).0 above in
    cube_front positive (omega (arith, v.whole)) (omega (arith, v.near)) (omega (arith, v.square_is)) v.fits

-- a step that is at most the rest, shifted, fits
pub cube_step_fits : (rest step weight : ℕ) → 0 < weight → step ≤ rest / weight → rest < 2 ^ 32
    → (step * weight % 2 ^ 32 ≡ step * weight) × (step * weight ≤ rest)
cube_step_fits rest step weight positive below fits = grind arith

-- with no digit left the front is the root
pub front_at_last : {a rest square front digits : ℕ} → digits ≡ 0 → IsCubeFront a rest square front (2 ^ (3 * digits)) → IsFloorRoot (pos a) 3 (pos front)
front_at_last {front = front} none known = grind (arith, power_three)
