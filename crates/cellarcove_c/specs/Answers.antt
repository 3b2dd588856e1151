-- What a call returns: a status, and a value.
use Rattle.std.specs.Prelude.{◌≡◌, ◌≢◌, ℕ, ℤ, pos, FitsSigned}
use Rattle.std.specs.Int.{FitsUnsignedBits, w64}
use Rattle.num_integer.specs.Checked.{AnswersWhere}
use Rattle.num_integer.specs.Range.{EachFits}
use Rattle.cellarcove_c.specs.Statuses.{StatusIs, answer_of, not_fitting}
use Rattle.cellarcove_c.specs.declared.answers.I64Answer.{I64Answer}
use Rattle.cellarcove_c.specs.declared.answers.U64Answer.{U64Answer}

-- A status other than 0 is a reason, and the value is then zeros.
-- Examples: of the reason `outside`: 3 and zeros; 0 and any value; not 3 and another value; not 2.
abbrev pub Refuses : {A : Type 0} → (ℕ → Type 0) → A → ℕ → A → Type 0
Refuses Reason zeros status value = status ≢ 0 → (value ≡ zeros) × Reason status

-- In the domain the status is 0 and the value has the property. Outside it the status is a reason and the value is zeros.
-- Examples: in the domain `y ≢ 0`, of the property 'is 8 / y', with the reason `outside`: for y = 2 they are 0 and 4, and for
-- y = 0 they are 3 and 0.
pub record Answers {A : Type 0} (domain : Type 0) (Is : A → Type 0) (Reason : ℕ → Type 0) (zeros : A) (status : ℕ) (value : A) : Type 0 where
  pub answer : AnswersWhere domain Is (answer_of status value)
  pub refusal : Refuses Reason zeros status value

-- The same of a result that is a signed number.
-- Examples: those of `Answers`.
abbrev pub I64Answers : Type 0 → (ℤ → Type 0) → (ℕ → Type 0) → I64Answer → Type 0
I64Answers domain Is Reason r = Answers domain Is Reason (pos 0) r.status r.value

-- The same of a result that is a natural number.
-- Examples: those of `Answers`.
abbrev pub U64Answers : Type 0 → (ℤ → Type 0) → (ℕ → Type 0) → U64Answer → Type 0
U64Answers domain Is Reason r = Answers domain (λ n. Is (pos n)) Reason 0 r.status r.value

-- The result is the signed number, or `not_fitting` if the number does not fit.
-- Examples: of 5: 0 and 5; of 2^63: 2 and 0.
abbrev pub I64Number : ℤ → I64Answer → Type 0
I64Number number = I64Answers (FitsSigned w64 number) (λ z. z ≡ number) (StatusIs not_fitting)

-- The result is the natural number, or `not_fitting` if the number does not fit.
-- Examples: of 5: 0 and 5; of -1: 2 and 0.
abbrev pub U64Number : ℤ → U64Answer → Type 0
U64Number number = U64Answers (FitsUnsignedBits 64 number) (λ z. z ≡ number) (StatusIs not_fitting)

-- The result is the signed number with the property, or `not_fitting` if there is one that does not fit.
-- Examples: of 'is the least common multiple of -4 and 6': 0 and 12.
abbrev pub I64Fitting : (ℤ → Type 0) → I64Answer → Type 0
I64Fitting Is = I64Answers (EachFits (FitsSigned w64) Is) Is (StatusIs not_fitting)

-- The result is the natural number with the property, or `not_fitting` if there is one that does not fit.
-- Examples: of 'is the least common multiple of 2^63 and 3': 2 and 0.
abbrev pub U64Fitting : (ℤ → Type 0) → U64Answer → Type 0
U64Fitting Is = U64Answers (EachFits (FitsUnsignedBits 64) Is) Is (StatusIs not_fitting)
