-- What goals about signed numbers that a call is passed need.
use Rattle.num_integer.specs.Division.{IsMultiple, IsQuotient}
use Rattle.cellarcove_c.proofs.Common.{◌≡◌, ◌≢◌, ℕ, ℤ, pos, FitsSigned, w64, of_z, to_z, ints, map-id, to_z-of_z, AnswersWhere, Answers, EachFits, Refuses, answer_of}
use Rattle.cellarcove_c.proofs.Weaker.{second_only, third_only}
use Rattle.cellarcove_c.specs.Statuses.{IsReason}

-- a number is read back as it was
pub ruleset read_back = (to_z-of_z, map-id)

-- the same, and arithmetic of integers
pub ruleset read_integers = (ints, to_z-of_z)

-- a number as a call reads it
abbrev read : ℤ → ℤ
read x = to_z w64 (of_z w64 x)

-- what a call returns for two numbers as it reads them is returned for the numbers
abbrev pub IsReadBack : (ℤ → ℤ → ℤ → Type 0) → ℤ → ℤ → ℕ → ℤ → Type 0
IsReadBack Is x y status value = FitsSigned w64 x → FitsSigned w64 y
    → AnswersWhere ((read y ≢ pos 0) × EachFits (FitsSigned w64) (Is (read x) (read y))) (λ z. FitsSigned w64 z × Is (read x) (read y) z) (answer_of status value)
    → Refuses (IsReason (y ≡ pos 0)) (pos 0) status value
    → Answers {A = ℤ} ((y ≢ pos 0) × EachFits (FitsSigned w64) (Is x y)) (Is x y) (IsReason (y ≡ pos 0)) (pos 0) status value

is_read_back : (Is : ℤ → ℤ → ℤ → Type 0) (x y : ℤ) (status : ℕ) (value : ℤ) → IsReadBack Is x y status value
is_read_back Is x y status value x_fits y_fits own refuses =
    let own = rw (to_z-of_z w64 x x_fits, to_z-of_z w64 y y_fits) at own in
    record { answer = second_only _ (FitsSigned w64) (Is x y) (answer_of status value) own; refusal = refuses }

pub quotient_read : (Kind : ℤ → ℤ → ℤ → ℤ → Type 0) (x y : ℤ) (status : ℕ) (value : ℤ) → IsReadBack (IsQuotient Kind) x y status value
quotient_read Kind = is_read_back (IsQuotient Kind)

pub multiple_read : (Kind : ℤ → ℤ → ℤ → ℤ → Type 0) (x y : ℤ) (status : ℕ) (value : ℤ) → IsReadBack (IsMultiple Kind) x y status value
multiple_read Kind = is_read_back (IsMultiple Kind)

-- so are a quotient and its remainder
pub division_read : {Kind : ℤ → ℤ → ℤ → ℤ → Type 0} {x y : ℤ} {status : ℕ} {value : ℤ × ℤ} → FitsSigned w64 x → FitsSigned w64 y
    → AnswersWhere ((read y ≢ pos 0) × EachFits (FitsSigned w64) (IsQuotient Kind (read x) (read y)))
    (λ r. FitsSigned w64 r.0 × FitsSigned w64 r.1 × Kind (read x) (read y) r.0 r.1) (answer_of status value)
    → Refuses (IsReason (y ≡ pos 0)) (pos 0, pos 0) status value
    → Answers {A = ℤ × ℤ} ((y ≢ pos 0) × EachFits (FitsSigned w64) (IsQuotient Kind x y)) (λ (q, rest). Kind x y q rest) (IsReason (y ≡ pos 0)) (pos 0, pos 0) status value
division_read {Kind} {x} {y} {status} {value} x_fits y_fits own refuses =
    let own = rw (to_z-of_z w64 x x_fits, to_z-of_z w64 y y_fits) at own in
    record {
      answer = third_only _ (λ r. FitsSigned w64 r.0) (λ r. FitsSigned w64 r.1) (λ r. Kind x y r.0 r.1) (answer_of status value) own;
      refusal = refuses;
    }

-- what goals about quotients and multiples need
pub ruleset quotients = (to_z-of_z, quotient_read, multiple_read, division_read)
