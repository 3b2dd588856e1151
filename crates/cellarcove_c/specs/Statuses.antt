-- The statuses of results.
use Rattle.std.specs.Prelude.{◌≡◌, ◌⊎◌, ◌↔◌, ℕ, zero, suc, Option, Some, None}
use Rattle.modular.specs.declared.common_solutions.CommonSolution.{CommonSolution}
use Rattle.modular.specs.declared.common_solutions.CommonSolution.TheVariants.{Never, Beyond, At}

-- The result does not fit its type.
-- Examples: the sum of 2^63 - 1 and 1 in i64.
abbrev pub not_fitting : ℕ
not_fitting = 2

-- Nothing is defined for the arguments.
-- Examples: the quotient of 8 by 0; the square root of -1.
abbrev pub outside : ℕ
outside = 3

-- No number solves the congruences.
-- Examples: 1 modulo 4 and 2 modulo 6.
abbrev pub no_solution : ℕ
no_solution = 4

-- A modulus is not positive.
-- Examples: 5 + 4 modulo 0.
abbrev pub bad_modulus : ℕ
bad_modulus = 5

-- There is no such date.
-- Examples: 1900-02-29.
abbrev pub no_date : ℕ
no_date = 6

-- The status is this one.
-- Examples: of `outside`: 3, and no other.
abbrev pub StatusIs : ℕ → ℕ → Type 0
StatusIs reason status = status ≡ reason

-- The status is one of two.
-- Examples: of `bad_modulus` and `no_solution`: 4 and 5; not 0.
abbrev pub StatusIsOneOf : ℕ → ℕ → ℕ → Type 0
StatusIsOneOf reason other status = (status ≡ reason) ⊎ (status ≡ other)

-- The status is `outside` exactly if nothing is defined for the arguments, and `not_fitting` exactly if something is.
-- Examples: of 'the divisor is 0': by 0: 3; by -1: 2.
abbrev pub IsReason : Type 0 → ℕ → Type 0
IsReason undefined status = ((status ≡ outside) ↔ undefined) × ((status ≡ not_fitting) ↔ (¬ undefined))

-- The result of a status and a value: it is there if the status is 0.
-- Examples: of 0 and 14: `Some(14)`; of 2 and 0: `None`.
abbrev pub answer_of : {A : Type 0} → ℕ → A → Option A
answer_of zero answer = Some answer
answer_of (suc _) _ = None

-- The common solution of a status and a value: `Beyond` if the status is `not_fitting`, and `Never` if it is another but 0.
-- Examples: of 0 and 21: `At(21)`; of 2 and 0: `Beyond`; of 4 and 0: `Never`.
abbrev pub common_solution_of : {A : Type 0} → ℕ → A → CommonSolution A
common_solution_of zero answer = At answer
common_solution_of (suc (suc zero)) _ = Beyond
common_solution_of _ _ = Never
