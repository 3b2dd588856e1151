-- Two fractions beside a fraction, from 0 to 1, with denominators up to a limit.
use Rattle.std.specs.Prelude.{◌≡◌, ◌⊎◌, ◌+◌, ◌*◌, ◌<◌, ◌≤◌, ℕ}
use Rattle.ratio64.specs.declared.neighbours.Neighbour.{Neighbour}

-- The fraction n/d lies between the two. The field `gap` of each is its gap to n/d. The cross products of the two differ by 1.
-- Examples: of 3/10 within 5: 1/4 and 1/3; 0/1 and 1/1; not 0/1 and 1/4.
pub record AreNeighbours (n d max : ℕ) (below above : Neighbour) : Type 0 where
  pub from_below : n * below.den ≡ below.num * d + below.gap
  pub from_above : above.num * d ≡ n * above.den + above.gap
  pub adjacent : above.num * below.den ≡ below.num * above.den + 1
  pub gaps : (0 < below.gap) × (0 < above.gap)
  pub dens : (0 < below.den) × (0 < above.den)
  pub nums : (below.num ≤ below.den) × (above.num ≤ above.den)
  pub bounded : (below.den ≤ max) × (above.den ≤ max)

-- The parts of `other` are added to those of `side` one or more times. The gap becomes smaller and stays positive.
-- Examples: of 3/10, 1/1 toward 0/1: 1/2; 1/3; not 1/4.
pub record IsCloser (max : ℕ) (side other result : Neighbour) : Type 0 where
  pub steps : ℕ
  pub some : 0 < steps
  pub num : result.num ≡ side.num + steps * other.num
  pub den : result.den ≡ side.den + steps * other.den
  pub gap : result.gap + steps * other.gap ≡ side.gap
  pub apart : 0 < result.gap
  pub bounded : result.den ≤ max

-- The result is the nearer neighbour. Of two that are equally near, it is the one with the smaller denominator. If the denominators are equal too, it
-- is the one below.
-- Examples: of 3/10, 1/4 and 1/3: 1/3; of 1/2, 0/1 and 1/1: 0/1; of 1/100, 0/1 and 1/50: 0/1.
pub record IsNearer (below above result : Neighbour) : Type 0 where
  pub is : ((result ≡ below) × (below.gap * above.den ≤ above.gap * below.den) × (below.gap * above.den ≡ above.gap * below.den → below.den ≤ above.den))
      ⊎ ((result ≡ above) × (above.gap * below.den ≤ below.gap * above.den) × (above.gap * below.den ≡ below.gap * above.den → above.den < below.den))
