-- Quotients, with a status.
use Rattle.std.specs.Prelude.{◌≡◌, ◌≢◌, ◌<◌, ℕ, ℤ, List, pos, FitsSigned, get_or, length}
use Rattle.std.specs.Int.{FitsUnsignedBits, w64}
use Rattle.num_integer.specs.Division.{IsFloored, IsQuotient}
use Rattle.num_integer.specs.Range.{EachFits}
use Rattle.cellarcove_c.specs.Answers.{Answers, I64Answers, U64Answers}
use Rattle.cellarcove_c.specs.Statuses.{IsReason}
use Rattle.cellarcove_c.specs.declared.answers.I64Answer.{I64Answer}
use Rattle.cellarcove_c.specs.declared.answers.U64Answer.{U64Answer}
use Rattle.cellarcove_c.specs.declared.division.I64Division.{I64Division}
use Rattle.cellarcove_c.specs.declared.division.U64Division.{U64Division}

-- The result is the signed number with the property, `outside` if the divisor is 0, or `not_fitting` if there is one that does
-- not fit.
-- Examples: by 3, of 'is -8 / 3 rounded down': 0 and -3; by 0: 3 and 0; by -1, of 'is -2^63 / -1': 2 and 0.
abbrev pub I64Quotient : ℤ → (ℤ → Type 0) → I64Answer → Type 0
I64Quotient divisor Is = I64Answers ((divisor ≢ pos 0) × EachFits (FitsSigned w64) Is) Is (IsReason (divisor ≡ pos 0))

-- The result is the natural number with the property, or a reason if the divisor is 0 or there is one that does not fit.
-- Examples: by 3, of 'is 8 / 3 rounded down': 0 and 2; by 0, with the reason `outside`: 3 and 0.
abbrev pub U64Quotient : ℤ → (ℤ → Type 0) → (ℕ → Type 0) → U64Answer → Type 0
U64Quotient divisor Is = U64Answers ((divisor ≢ pos 0) × EachFits (FitsUnsignedBits 64) Is) Is

-- The result is the quotient of a rounding and its remainder, `outside` if the divisor is 0, or `not_fitting` if the quotient
-- does not fit.
-- Examples: of -8 by 3, rounded down: 0, -3 and 1; of 8 by 0: 3, 0 and 0; of -2^63 by -1: 2, 0 and 0.
abbrev pub I64Quotients : (ℤ → ℤ → ℤ → ℤ → Type 0) → ℤ → ℤ → I64Division → Type 0
I64Quotients IsRounded x divisor r = Answers {A = ℤ × ℤ} ((divisor ≢ pos 0) × EachFits (FitsSigned w64) (IsQuotient IsRounded x divisor))
    (λ (q, rest). IsRounded x divisor q rest) (IsReason (divisor ≡ pos 0)) (pos 0, pos 0) r.status (r.quotient, r.remainder)

-- The result is the quotient of a rounding and its remainder, or a reason if the divisor is 0 or the quotient does not fit.
-- Examples: of 8 by 3, rounded down: 0, 2 and 2; of 8 by 0, with the reason `outside`: 3, 0 and 0.
abbrev pub U64Quotients : (ℤ → ℤ → ℤ → ℤ → Type 0) → ℤ → ℤ → (ℕ → Type 0) → U64Division → Type 0
U64Quotients IsRounded x divisor Reason r = Answers {A = ℕ × ℕ} ((divisor ≢ pos 0) × EachFits (FitsUnsignedBits 64) (IsQuotient IsRounded x divisor))
    (λ (q, rest). IsRounded x divisor (pos q) (pos rest)) Reason (0, 0) r.status (r.quotient, r.remainder)

-- Each number of the second list is the one in its place in the first, divided by d and rounded down.
-- Examples: by 3: of 8, -8: 2, -3; not 2, -2; not 2 alone.
pub record AreFloored (d : ℤ) (numbers quotients : List ℤ) : Type 0 where
  pub one_each : length quotients ≡ length numbers
  pub each : (k : ℕ) → k < length numbers → IsQuotient IsFloored (get_or numbers k (pos 0)) d (get_or quotients k (pos 0))

-- Each number of the list divided by d and rounded down fits.
-- Examples: by -1: those of 8 and 2^63 - 1 fit; that of -2^63 does not; by 3: each fits.
abbrev pub QuotientsFit : ℤ → List ℤ → Type 0
QuotientsFit d numbers = (k : ℕ) → k < length numbers → EachFits (FitsSigned w64) (IsQuotient IsFloored (get_or numbers k (pos 0)) d)
