-- Division of integers: three kinds of quotient and remainder, by equation and inequalities.
use Rattle.std.specs.Prelude.{◌≡◌, ◌⊎◌, ◌<◌, ◌<ℤ◌, ◌+ℤ◌, ◌*ℤ◌, ℤ, pos, unsigned_abs}

-- n is q times d plus r, and the magnitude of r is below that of d.
-- Examples: 8 by 3: 2 and 2; 8 by 3: 3 and -1 too; by 0: none, since no magnitude is below 0.
pub record IsDivision (n d q r : ℤ) : Type 0 where
  pub equation : n ≡ q *ℤ d +ℤ r
  pub small : unsigned_abs r < unsigned_abs d

-- Both numbers are positive, or both are negative.
-- Examples: 2 and 8; -2 and -8; not 0 and 8.
abbrev pub HaveSameSign : ℤ → ℤ → Type 0
HaveSameSign r z = ((pos 0 <ℤ r) × (pos 0 <ℤ z)) ⊎ ((r <ℤ pos 0) × (z <ℤ pos 0))

-- One number is positive, and the other is negative.
-- Examples: -1 and 3; 2 and -3; not 0 and 3.
abbrev pub HaveOppositeSigns : ℤ → ℤ → Type 0
HaveOppositeSigns r z = ((pos 0 <ℤ r) × (z <ℤ pos 0)) ⊎ ((r <ℤ pos 0) × (pos 0 <ℤ z))

-- q is n by d rounded toward zero: the remainder r is 0 or has the sign of n.
-- Examples: 8 by 3: 2, 2; -8 by 3: -2, -2; 8 by -3: -2, 2.
pub record IsTruncated (n d q r : ℤ) : Type 0 where
  pub division : IsDivision n d q r
  pub sign : (r ≡ pos 0) ⊎ HaveSameSign r n

-- q is n by d rounded down: the remainder r is 0 or has the sign of d.
-- Examples: 8 by 3: 2, 2; -8 by 3: -3, 1; 8 by -3: -3, -1.
pub record IsFloored (n d q r : ℤ) : Type 0 where
  pub division : IsDivision n d q r
  pub sign : (r ≡ pos 0) ⊎ HaveSameSign r d

-- q is n by d rounded up: the remainder r is 0 or has the sign that d has not.
-- Examples: 8 by 3: 3, -1; -8 by 3: -2, -2; 8 by -3: -2, 2.
pub record IsCeiled (n d q r : ℤ) : Type 0 where
  pub division : IsDivision n d q r
  pub sign : (r ≡ pos 0) ⊎ HaveOppositeSigns r d

-- q is the quotient of n by d of this kind, with some remainder.
-- Examples: -8 by 3: truncated -2, floored -3, ceiled -2; 1 by 2: 0, 0, 1; 6 by 3: 2, 2, 2.
pub record IsQuotient (Kind : ℤ → ℤ → ℤ → ℤ → Type 0) (n d q : ℤ) : Type 0 where
  pub remainder : ℤ
  pub division : Kind n d q remainder

-- r is the remainder of n by d of this kind, with some quotient.
-- Examples: floored, -8 by 3: 1; 8 by -3: -1; 6 by 3: 0.
pub record IsRemainder (Kind : ℤ → ℤ → ℤ → ℤ → Type 0) (n d r : ℤ) : Type 0 where
  pub quotient : ℤ
  pub division : Kind n d quotient r

-- m is the quotient of n by d of this kind, times d: the next multiple if the kind is ceiled, the previous one if it is
-- floored.
-- Examples: ceiled, 23 by 8: 24; 23 by -8: 16; floored, 23 by -8: 24.
pub record IsMultiple (Kind : ℤ → ℤ → ℤ → ℤ → Type 0) (n d m : ℤ) : Type 0 where
  pub quotient : ℤ
  pub is : IsQuotient Kind n d quotient
  pub product : m ≡ quotient *ℤ d

-- The property holds of each of the three kinds of division.
-- Examples: a quotient of 6 by 3 is 2; a quotient of -6 by 3 is -2; not: a quotient of 8 by 3 is 2, since the ceiled
-- one is 3.
abbrev pub EachKind : ((ℤ → ℤ → ℤ → ℤ → Type 0) → Type 0) → Type 0
EachKind P = P IsTruncated × P IsFloored × P IsCeiled
