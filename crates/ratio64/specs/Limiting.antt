-- The nearest fraction with a small denominator, and with two small parts.
use Rattle.std.specs.Prelude.{◌≡◌, ◌≤◌, ◌*◌, ◌<ℤ◌, ◌≤ℤ◌, ◌-ℤ◌, ◌*ℤ◌, ℤ, ℕ, pos, unsigned_abs}

-- The gap is the distance from n/d to a/b, times both denominators.
-- Examples: 3/10 and 1/3: 1; 3/10 and 1/4: 2; 3/2 and 6/4: 0.
abbrev pub gap : ℤ → ℤ → ℤ → ℤ → ℕ
gap n d a b = unsigned_abs (n *ℤ b -ℤ a *ℤ d)

-- num/den is the nearest to n/d of the fractions with denominators from 1 to max. Of those that are equally near, it has the smallest denominator. Of
-- those with that denominator, it is the smallest.
-- Examples: 3/10 within 5: 1/3; 3/2 within 1: 1/1; 1/100 within 50: 0/1.
pub record IsNearestWithin (n d max num den : ℤ) : Type 0 where
  pub positive : pos 0 <ℤ den
  pub bounded : den ≤ℤ max
  pub nearest : (u v : ℤ) → pos 0 <ℤ v → v ≤ℤ max → gap n d num den * unsigned_abs v ≤ gap n d u v * unsigned_abs den
  pub tie : (u v : ℤ) → pos 0 <ℤ v → v ≤ℤ max → gap n d num den * unsigned_abs v ≡ gap n d u v * unsigned_abs den
      → (den ≤ℤ v) × (v ≡ den → num ≤ℤ u)

-- num/den is the nearest to n/d of the fractions with denominators from 1 to max and numerators from -max to max. Of those that are equally near, it
-- has the smallest denominator. Of those with that denominator, its numerator is the nearest to 0.
-- Examples: 314159/100000 within 120: 22/7; 8/3 within 5: 5/2; -3/2 within 2: -1/1.
pub record AreNearestParts (n d max num den : ℤ) : Type 0 where
  pub positive : pos 0 <ℤ den
  pub bounded : (den ≤ℤ max) × (pos (unsigned_abs num) ≤ℤ max)
  pub nearest : (u v : ℤ) → pos 0 <ℤ v → v ≤ℤ max → pos (unsigned_abs u) ≤ℤ max → gap n d num den * unsigned_abs v ≤ gap n d u v * unsigned_abs den
  pub tie : (u v : ℤ) → pos 0 <ℤ v → v ≤ℤ max → pos (unsigned_abs u) ≤ℤ max → gap n d num den * unsigned_abs v ≡ gap n d u v * unsigned_abs den
      → (den ≤ℤ v) × (v ≡ den → unsigned_abs num ≤ unsigned_abs u)
