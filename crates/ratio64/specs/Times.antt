-- A fraction times an integer, in `i128`.
use Rattle.std.specs.Prelude.{◌≡◌, ◌<◌, ◌^◌, ◌<ℤ◌, ◌*ℤ◌, ℤ, pos, unsigned_abs}
use Rattle.num_integer.specs.Division.{IsQuotient}

-- p and q are the parts of num/den times n, which are not in lowest terms.
-- Examples: of 2/3 times 9: 18 and 3.
pub record AreTimes (num den n p q : ℤ) : Type 0 where
  pub num_is : p ≡ num *ℤ n
  pub den_is : q ≡ den
  pub num_below : unsigned_abs p < 2 ^ 127
  pub den_below : unsigned_abs q < 2 ^ 127
  pub positive : pos 0 <ℤ den

-- q is a quotient of n by d of this kind, and its magnitude is below 2^127.
-- Examples: floored, -8 and 3: -3; 2^127 and 2: 2^126; not 2^127 and 1.
abbrev pub IsWideQuotient : (ℤ → ℤ → ℤ → ℤ → Type 0) → ℤ → ℤ → ℤ → Type 0
IsWideQuotient Kind n d q = IsQuotient Kind n d q × (unsigned_abs q < 2 ^ 127)
