-- The iterations of the loop that finds the neighbours of a fraction.
use Rattle.ratio64.proofs.Common.{◌≡◌, ◌≢◌, ◌+◌, ◌-◌, ◌*◌, ◌/◌, ◌<◌, ◌≤◌, ℕ, min, arith, ap, mul-le-mul_left, le-div, Neighbour, AreNeighbours, IsCloser}

-- ---- the steps of one neighbour toward the other

-- as many steps as leave a gap and keep the denominator within the limit
pub steps_within : {steps gap num den max a b g : ℕ} → (0 < g) × (g < gap) → (0 < b) × (den + b ≤ max) → (num ≤ den) × (a ≤ b)
    → steps ≡ min ((gap - 1) / g) ((max - den) / b)
    → (0 < steps) × (steps * g < gap) × (num + steps * a ≤ max) × (den + steps * b ≤ max)
steps_within {steps} {gap} {num} {den} {max} {a} {b} {g} gaps dens nums is =
    let steps_gap : steps ≤ (gap - 1) / g = omega arith in
    let steps_den : steps ≤ (max - den) / b = omega arith in
    let by_gap = mul-le-mul_left g steps_gap in
    let by_den = mul-le-mul_left b steps_den in
    let some_gap = le-div 1 (gap - 1) g gaps.0 (omega arith) in
    let some_den = le-div 1 (max - den) b dens.0 (omega arith) in
    let parts = mul-le-mul_left steps nums.1 in
    (omega arith, omega arith, omega arith, omega arith)

-- ---- the iterations

-- the upper one comes closer
pub above_closer : {n d max : ℕ} {x y z : Neighbour} → AreNeighbours n d max x y → IsCloser max y x z → AreNeighbours n d max x z
above_closer {n} {d} {max} {x} {y} {z} h s =
    let below = ap (λ (t : ℕ). s.steps * t) h.from_below in
    let nums = mul-le-mul_left s.steps h.nums.0 in
    omega (arith, ap (λ (t : ℕ). t * d) s.num, ap (λ (t : ℕ). n * t) s.den, ap (λ (t : ℕ). t * x.den) s.num, ap (λ (t : ℕ). x.num * t) s.den)

-- the lower one does
pub below_closer : {n d max : ℕ} {x y z : Neighbour} → AreNeighbours n d max x y → IsCloser max x y z → AreNeighbours n d max z y
below_closer {n} {d} {max} {x} {y} {z} h s =
    let above = ap (λ (t : ℕ). s.steps * t) h.from_above in
    let nums = mul-le-mul_left s.steps h.nums.1 in
    omega (arith, ap (λ (t : ℕ). t * d) s.num, ap (λ (t : ℕ). n * t) s.den, ap (λ (t : ℕ). t * y.den) s.num, ap (λ (t : ℕ). y.num * t) s.den)

-- equal gaps would make a fraction equal to n/d of a denominator up to the limit
pub gaps_differ : {n d max : ℕ} {x y : Neighbour} → AreNeighbours n d max x y → max < d → ((a b : ℕ) → 0 < b → n * b ≡ a * d → d ≤ b)
    → x.den + y.den ≤ max → y.gap ≤ x.gap → y.gap < x.gap
gaps_differ {n} {d} {max} {x} {y} h above lowest room most =
    let differ : x.gap ≢ y.gap = λ e. let small = lowest (x.num + y.num) (x.den + y.den) (omega arith) (omega arith) in absurd (omega arith) in
    omega arith

-- the gaps by the parts make those of the fraction
pub gaps_make : {n d max : ℕ} {x y : Neighbour} → AreNeighbours n d max x y
    → (d ≡ x.gap * y.den + y.gap * x.den) × (n ≡ x.gap * y.num + y.gap * x.num)
gaps_make {n} {d} {max} {x} {y} h = (
  omega (arith, ap (λ (t : ℕ). t * y.den) h.from_below, ap (λ (t : ℕ). t * x.den) h.from_above, ap (λ (t : ℕ). t * d) h.adjacent),
  omega (arith, ap (λ (t : ℕ). t * y.num) h.from_below, ap (λ (t : ℕ). t * x.num) h.from_above, ap (λ (t : ℕ). t * n) h.adjacent),
)
